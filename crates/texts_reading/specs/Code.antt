pub mod FormParts
pub mod FormReading
pub mod NumeralParts
