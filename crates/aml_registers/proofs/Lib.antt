mod Accounts
mod Settings
