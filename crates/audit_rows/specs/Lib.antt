pub mod Viewing
pub mod Standing
pub mod Doubting
pub mod Accusing
pub mod Charging
pub mod Judging
pub mod Worked
pub use Viewing.{IsFoundAt, IsViewAt, said_in}
pub use Doubting.{row_reasons}
pub use Accusing.{accused_of_row}
pub use Judging.{IsJudgedOf}
