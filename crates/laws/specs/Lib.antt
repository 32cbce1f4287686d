pub mod All
pub mod Among
pub mod Lengths
pub mod Ranges
pub mod Same
pub mod Tabulate
pub mod Xor
