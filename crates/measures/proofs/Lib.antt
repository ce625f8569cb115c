pub mod OfNumbers
