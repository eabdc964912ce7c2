pub mod Model
pub mod Rules
pub use declared.rules.port_rule.PortRule.{PortRule}
pub use declared.rules.port_rule.PortRule.TheVariants.{BadAnswer, Foreign, Wrong}
pub use declared.rules.rule.EndRule.{EndRule}
pub use declared.rules.rule.EndRule.TheVariants.{AckAhead, AckZero, BeyondBlock65535, BlockChanged, BlockLength, BlockSkipped, BlockZero, GoneBack, NotStarted, WindowOverrun}
pub use declared.rules.terms.Reply.{Reply}
pub use declared.rules.terms.Reply.TheVariants.{NoReply, Oacked, Plain}
pub use declared.rules.terms.Terms.{Terms}
