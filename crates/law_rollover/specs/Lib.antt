pub mod Histories
pub mod Unrolled
pub mod Numbered
pub mod Worked
pub use Histories.{AreLow, AreNear, IsLowPacket, IsNearPacket, IsTimely, IsTimelyPacket, ShowsNumbers, deed_with, high_of, higher_of, numbers_of, positions_of, with_number, with_position}
pub use Unrolled.{AreUnrolled, IsTaken, IsTakenFor, IsUnrolled, carries_number, unrolled_payload, with_payload, with_place}
pub use Numbered.{AreBytes, IsDressedByNumber, IsLawfulByNumber, IsSeenByNumber, ShowsByNumber, by_number, says_by_number}
