-- What contracts cite: contexts that are alone, and what they report.
pub mod Alone
pub mod Courses
pub mod Numbers
