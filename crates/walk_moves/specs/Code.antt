pub mod MoveParts
