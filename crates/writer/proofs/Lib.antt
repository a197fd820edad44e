pub mod FieldsStored
