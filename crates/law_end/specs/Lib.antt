pub mod Sides
pub mod Fitting
pub mod Dress
pub mod Law
pub mod Replies
pub mod MessageRules
pub mod Rules
pub mod RuleNames
pub mod OneEnd
pub mod Aborted
pub mod Owned
pub mod Accord
pub mod Divisions
pub mod Writable
pub use Sides.{BeginsAsRequest, from_server, server_port}
pub use Fitting.{Fits, IsWritable, ReadsAs, carried_file, written_wire}
pub use Dress.{AnswersStray, Carries, CarriesDeed, ComesAstray, Division, GoesToServer, HasClientId, HasLabel, HasLabelBy, HasServerId, HaveLabels, HaveLabelsBy, IsDressed, IsMain, Main, Label, Labelled, Saying, Stray, TransferIds, datagrams_of, dir_of, packet_of, says_of, view_in}
pub use Law.{IsLawful, IsLawfulUpTo, IsSeen, Shows, ShowsBy}
pub use Replies.{Agrees, Answer, Answers, AreTerms, AreTermsAfter, Begins, FirstAnswer, FirstAsked, IsAnswer, NotAnswered, plain_terms, size_from, terms_after}
pub use Rules.{Broken, FirstBroken, MessageBroken, Says, number_of}
pub use RuleNames.{rule_name}
pub use OneEnd.{IsAgreed, IsEnded, IsJoined, IsRead, IsRefused, IsWhole, Meant, OneEnded, Passes}
pub use MessageRules.{AckSent, BlockSent, ClientWentOn, FirstOackBreaks, GoesOn, IsError, IsWrongKind, KindBreaks, LaterOackBreaks, MessageBreaks, OackBreaks, RequestBreaks, TermsBreak}
pub use Aborted.{FirstError, FirstErrorBy, IsAborted, IsErrorBy, IsFirstError, IsNotAborted, NoErrorBy, NoErrorPassed, by_of}
pub use Owned.{meaning_from}
pub use Accord.{Accords, AreRouted, AreRoutedBy, SaysAs, SaysAsBy, Stands, Starts, packet_route, label_route, request_at, request_back}
pub use Divisions.{Divides, FindPlaces, FindsPlace, packet_in, says_some}
pub use Writable.{CanBeNumbered, CanBeWritten, HasPayload, blocks_of, wire_of}
pub use declared.aborted_by.AbortedBy.{AbortedBy}
pub use declared.aborted_by.AbortedBy.TheVariants.{Local, Peer}
pub use declared.rule.Rule.{Rule}
pub use declared.rule.Rule.TheVariants.{Agreement, Block, Malformed, Port}
