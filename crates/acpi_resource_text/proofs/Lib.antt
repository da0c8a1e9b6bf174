pub mod Irqs
