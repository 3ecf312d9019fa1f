pub mod AfterChoice
