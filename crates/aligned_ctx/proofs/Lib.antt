pub mod Redirects
