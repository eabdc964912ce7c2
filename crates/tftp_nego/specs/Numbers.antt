-- The numbers of options, and what counts where there is none (RFC 2347).
pub use Rattle.tftp_packet.specs.Numbers.{number_or, option_or}
