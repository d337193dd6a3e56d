pub mod Invoices
