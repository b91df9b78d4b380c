pub mod Books
pub mod Numbers
