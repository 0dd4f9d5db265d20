-- Words in lists of bytes, and what one word holds.
pub mod Maybe
pub mod Word
pub mod Words
