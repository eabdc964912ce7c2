pub mod Plain
pub mod Reasons
pub mod Cells
pub mod Endings
pub mod Ended
pub mod Times
pub mod Verdicts
pub mod Premises
pub mod Rows
pub mod Members
pub mod Objects
pub mod Printing
pub mod Asked
pub mod Listing
pub mod Telling
pub mod Whole
pub mod Accusing
pub mod Faults
pub mod Remarks
pub mod Files
pub mod Listed
pub mod ListedWhole
pub mod Lists
pub mod Texts
pub mod Worked
pub use Cells.{cell}
pub use Endings.{before_text, ended_text, fault_text}
pub use Times.{slow_text}
pub use Verdicts.{verdict_line}
pub use Rows.{head_text, row_text}
pub use Members.{json_text}
pub use Objects.{row_json}
pub use Listing.{list_head, list_json, list_text}
