pub mod RecordWise
