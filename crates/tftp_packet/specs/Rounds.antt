pub mod Numbers
pub mod Reading
pub mod Greatest
pub use Rattle.tftp_packet.specs.Rounds.Numbers.{after, first_of, number_of, round_of}
pub use Rattle.tftp_packet.specs.Rounds.Reading.{IsNear, ahead, half_round, oldest_of, oldest_again, position_of}
pub use Rattle.tftp_packet.specs.Rounds.Greatest.{greatest_of}
pub use Rattle.tftp_packet.specs.declared.rounds.rollover.Rollover.{Rollover}
pub use Rattle.tftp_packet.specs.declared.rounds.rollover.Rollover.TheVariants.{One, Zero}
