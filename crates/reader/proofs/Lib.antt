pub mod Marks
pub mod FieldsRead
pub mod OneRecord
pub mod WholeFile
pub mod RoundTrip
pub mod Further
