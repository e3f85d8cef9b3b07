pub mod ProperIris
