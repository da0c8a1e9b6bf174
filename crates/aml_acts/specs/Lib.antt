pub mod Mutexes
