-- What each reason says.
use Rattle.std.specs.Prelude.{ℕ, ◌==◌, ◌++◌, List, [], codes, decimal, if◌then◌else◌}
use Rattle.audit_recording.specs.declared.blame.reason.Reason.{Reason}
use Rattle.audit_recording.specs.declared.blame.reason.Reason.TheVariants.{AnsweredApart, AskedAgain, Beside, Copied, Damaged, Discarded, Disordered, Dropped, FirstWord, FollowsStrays, FollowsUnanswered, GoesOver, Joined, Late, LedAstray, LeftOut, Lost, OneWay, SpeaksFirst, Stranger, TurnedAway, Twice, UnknownId, Unplaced, Unseen}

-- of one that names no frame and no number
abbrev pub words_of : Reason → List ℕ
words_of Unplaced = codes "it may have been recorded between its two ends: name the place with --end"
words_of Unseen = codes "its client may have asked again, by a request that did not pass here"
words_of Disordered = codes "its datagrams are not in the order of their times"
words_of OneWay = codes "nothing that came to its client is there: one direction only"
words_of AskedAgain = codes "its client had asked the same and sent nothing else since: the transfer before goes on"
words_of FollowsStrays = codes "something passed at its client's endpoint before its request: another transfer was under way, it may be"
words_of FollowsUnanswered = codes "nobody had answered for sure what its client asked for before: what comes may be the late answer"
words_of LedAstray = codes "its client did not go on with who sent it something first"
words_of TurnedAway = codes "its client had asked before, and sent an ERROR alone to who sent it something first"
words_of UnknownId = codes "it is an ERROR 5, by which an end answers what is none of its transfer"
words_of SpeaksFirst = codes "its client had heard nothing from there"
words_of FirstWord = codes "its client spoke before anything came to it: the recording began later, it may be"
words_of AnsweredApart = codes "a DATA 1 from where an earlier transfer was served may be its answer"
words_of GoesOver = codes "it may come of an earlier transfer between the same two ports"
words_of Late = codes "its client's endpoint had asked again"
words_of Beside = codes "it passed with another than the client, whose request may not have been recorded"
words_of Stranger = codes "neither its client nor its server sent the datagram"
words_of Twice = codes "each of its datagrams stands beside its equal: recorded twice"
words_of (LeftOut frame) = []
words_of (Lost frame) = []
words_of (Copied frame) = []
words_of (Damaged frame) = []
words_of (Discarded frame) = []
words_of (Joined frame) = []
words_of (Dropped count) = []

-- one packet or several, at least 1
abbrev pub dropped_text : ℕ → List ℕ
dropped_text count = if count == 1 then codes "the recorder lost 1 packet" else codes "the recorder lost " ++ decimal count ++ codes " packets"

abbrev pub reason_text : Reason → List ℕ
reason_text (LeftOut frame) = codes "frame " ++ decimal frame ++ codes " is out of order, and by its time may be of this transfer"
reason_text (Lost frame) = codes "frame " ++ decimal frame ++ codes " is not there whole"
reason_text (Copied frame) = codes "frame " ++ decimal frame ++ codes " may be a copy of the one before"
reason_text (Damaged frame) = codes "frame " ++ decimal frame ++ codes " was received with an error, so that its host discarded it"
reason_text (Discarded frame) = codes "frame " ++ decimal frame ++ codes " has a wrong checksum, so that its host may have discarded it"
reason_text (Joined frame) = codes "frame " ++ decimal frame ++ codes " may be several datagrams that were recorded as one"
reason_text (Dropped count) = dropped_text count
reason_text reason = words_of reason
