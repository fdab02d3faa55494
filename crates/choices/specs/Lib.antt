pub mod Eithers
