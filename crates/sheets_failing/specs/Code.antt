pub mod LineParts
