pub mod Parts
pub mod Requests
pub mod MatchRequests
pub mod Told
pub use Parts.{Again, At, Begins, Choose, Counts, Done, First, Gives, Have, Holds, IsName, IsNumber, IsOnce, IsOption, IsPlain, IsPort, IsTransfer, IsValue, Json, Part, Plain, Rest, Say, Says, ServerTransfer, Service, Transfer, Word, countings, end_word, jsons, option_name, part, plains, point_word, points, rollover_word, rollovers, server_transfers, services, transfers}
pub use Requests.{AllWritten, Argues, Asked, Calls, Fits, IsJudgedAt, IsNoName, IsRequest, Judged, Listed, Names, Written, asked}
pub use MatchRequests.{Compares, IsMatchRequest, IsOneInput, MatchAsked, Matched, match_asked}
pub use declared.given.Given.{Given}
pub use declared.given.ReadFault.{ReadFault}
pub use declared.match_request.MatchRequest.{MatchRequest}
pub use declared.point.Point.{Point}
pub use declared.request.Command.{Command}
