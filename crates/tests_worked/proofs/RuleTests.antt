-- Tests of the rules, by what a datagram spells and what those before it spell.
use Rattle.std.proofs.Common.{ℕ, ◌+◌, ◌/◌, ◌%◌, ◌==◌, ◌&&◌, ◌||◌, not, nat_lt, nat_le, zero, suc, Bool, true, false, List, [], ◌∷◌, length, Option, Some, None}
use Rattle.std.specs.Str.{bytes_eq}
use Rattle.std.specs.List.{list_all}
use Rattle.tftp_packet.specs.{Message, Side, Get, Put, End, Client, Server}
use Rattle.tftp_packet.specs.Hosts.{Header}
use Rattle.tftp_packet.specs.{Dir, In, Out}
use Rattle.law_model.specs.Model.Roles.{sender_of, receiver_of}
use Rattle.law_model.specs.Rules.{author_of, Route, route_of, is_of_transfer, end_rules, rule_count}
use Rattle.law_model.specs.{Reply, NoReply, Plain, Oacked, Terms, EndRule, PortRule}
use Rattle.law_end.specs.{Answer, Begins, number_of, Rule}
use Rattle.tests_worked.proofs.Payloads.{Spelled, datagrams}
use Rattle.tests_worked.proofs.Passing.{same_dir, as_block, as_ack, holds, main_of, used_of, every, some, first_asked, asked_by, first_answer}

abbrev pub is_unknown_id : Message → Bool
is_unknown_id (Message.Error code text) = code == 5
is_unknown_id _ = false

abbrev pub not_foreign : Route → Bool
not_foreign Route.ForeignPort = false
not_foreign _ = true

abbrev pub not_wrong : Route → Bool
not_wrong Route.WrongPort = false
not_wrong _ = true

abbrev pub not_peer : Route → Bool
not_peer Route.Peer = false
not_peer _ = true

abbrev pub answers_well : Route → Message → Bool
answers_well Route.NoStrayAnswer m = false
answers_well Route.StrayAnswer m = is_unknown_id m
answers_well _ m = true

abbrev pub is_readable : Route → Message → Bool
is_readable Route.Request m = true
is_readable Route.Peer m = true
is_readable Route.Stray m = true
is_readable Route.StrayAnswer m = is_unknown_id m
is_readable _ m = false

abbrev pub not_error : Message → Bool
not_error (Message.Error code text) = false
not_error _ = true

abbrev pub is_that : ℕ → List ℕ → Message → Bool
is_that code text (Message.Error c words) = c == code && bytes_eq words text
is_that code text _ = false

-- what comes in and is no ERROR may have been sent before the ERROR
abbrev pub may_precede : Dir → Message → Bool
may_precede In now = not_error now
may_precede Out now = false

-- after an ERROR that went this way
abbrev pub same_stop : Dir → Message → Dir → Message → Bool
same_stop dir now way (Message.Error code text) = not (same_dir dir way) || (may_precede dir now || is_that code text now)
same_stop dir now way _ = true

abbrev pub not_request : Message → Bool
not_request (Message.Request request) = false
not_request _ = true

abbrev pub not_oack : Message → Bool
not_oack (Message.Oack options) = false
not_oack _ = true

abbrev pub right_kind : End → Side → Message → Bool
right_kind Client Get (Message.Data k bytes) = false
right_kind Client Put (Message.Ack j) = false
right_kind Client Get (Message.Oack options) = false
right_kind Client Put (Message.Oack options) = false
right_kind Server Get (Message.Ack j) = false
right_kind Server Put (Message.Data k bytes) = false
right_kind Server Get (Message.Request request) = false
right_kind Server Put (Message.Request request) = false
right_kind _ _ _ = true

abbrev pub kind_is_right : End → Option Message → Message → Bool
kind_is_right author (Some (Message.Request asked)) m = right_kind author asked.side m
kind_is_right author _ m = true

abbrev pub not_asked : Option Message → Bool
not_asked (Some (Message.Request asked)) = false
not_asked _ = true

abbrev pub not_begun : Option Answer → Bool
not_begun (Some Begins) = false
not_begun _ = true

-- nothing plain came before
abbrev pub no_plain_answer : Option Message → List Spelled → Bool
no_plain_answer (Some (Message.Request asked)) ts = not_begun (first_answer asked.side ts)
no_plain_answer _ ts = true

abbrev pub went_on : Dir → Message → Bool
went_on Out (Message.Data k bytes) = false
went_on Out (Message.Ack j) = false
went_on _ _ = true

abbrev pub sent_no_block : Dir → Message → Bool
sent_no_block Out (Message.Data k bytes) = false
sent_no_block _ _ = true

abbrev pub is_ack_zero : Dir → Message → Bool
is_ack_zero dir m = holds (λ j. j == 0) (as_ack m)

abbrev pub is_block : Dir → Message → Bool
is_block dir m = holds (λ _. true) (as_block m)

abbrev pub same_end : End → End → Bool
same_end Client Client = true
same_end Server Server = true
same_end _ _ = false

abbrev pub is_sender : Terms → Bool
is_sender t = same_end t.named (sender_of t.side)

abbrev pub is_receiver : Terms → Bool
is_receiver t = same_end t.named (receiver_of t.side)

abbrev pub may_start : Side → Reply → List Spelled → Bool
may_start Get Oacked ts = some is_ack_zero ts
may_start Put NoReply ts = false
may_start _ _ ts = true

abbrev pub may_be_zero : Side → Reply → List Spelled → Bool
may_be_zero Get NoReply ts = false
may_be_zero Get Plain ts = false
may_be_zero Put Oacked ts = some is_block ts
may_be_zero _ _ ts = true

abbrev pub size_fits : Option ℕ → ℕ → ℕ → Bool
size_fits None b long = true
size_fits (Some size) b long = long == size % b

abbrev pub fits_last : Terms → ℕ → ℕ → ℕ → Bool
fits_last t last k long = (nat_lt k last && long == t.blksize) || (k == last && (not (long == t.blksize) && size_fits t.size t.blksize long))

abbrev pub fits_short : Terms → ℕ → ℕ → Dir → Message → Bool
fits_short t k long dir (Message.Data last bytes) = nat_le t.blksize (length bytes) || fits_last t last k long
fits_short t k long dir _ = true

abbrev pub fits_size : Terms → Option ℕ → ℕ → ℕ → Bool
fits_size t None k long = true
fits_size t (Some size) k long = fits_last t (size / t.blksize + 1) k long

abbrev pub is_some : Option ℕ → Bool
is_some (Some n) = true
is_some None = false

abbrev pub is_short : ℕ → Dir → Message → Bool
is_short b dir m = holds (λ (x : ℕ × List ℕ). nat_lt (length x.1) b) (as_block m)

abbrev pub is_below : ℕ → Dir → Message → Bool
is_below k dir (Message.Data higher bytes) = nat_lt higher k
is_below k dir _ = true

abbrev pub may_be_last : Terms → List Spelled → ℕ → ℕ → Bool
may_be_last t ts k long = nat_le t.blksize long || (is_some t.size || (some (is_short t.blksize) ts || (nat_lt 0 k && every (is_below k) ts)))

abbrev pub length_fits : Terms → List Spelled → ℕ → ℕ → Bool
length_fits t ts k long = nat_le long t.blksize && (every (fits_short t k long) ts && (fits_size t t.size k long && may_be_last t ts k long))

abbrev pub allows : Dir → ℕ → ℕ → Dir → Message → Bool
allows way w k dir m = same_dir way dir && holds (λ a. nat_le k (a + w)) (as_ack m)

abbrev pub in_window : Terms → List Spelled → ℕ → Bool
in_window t ts k = nat_le k t.windowsize || ((not (is_sender t) || some (allows In t.windowsize k) ts) && (not (is_receiver t) || some (allows Out t.windowsize k) ts))

abbrev pub reaches : ℕ → Dir → Message → Bool
reaches k dir m = same_dir Out dir && holds (λ (x : ℕ × List ℕ). nat_le k x.0) (as_block m)

-- a block that was sent stands at most one below
abbrev pub is_next : ℕ → Dir → Message → Bool
is_next k dir m = same_dir Out dir && holds (λ (x : ℕ × List ℕ). nat_le k (x.0 + 1)) (as_block m)

abbrev pub not_above : ℕ → Dir → Message → Bool
not_above k Out (Message.Data top bytes) = nat_le top k
not_above k _ _ = true

abbrev pub not_changed : ℕ → List ℕ → Dir → Message → Bool
not_changed k bytes dir (Message.Data other before) = not (k == other) || bytes_eq before bytes
not_changed k bytes dir _ = true

abbrev pub is_taken : ℕ → Dir → Message → Bool
is_taken k dir m = same_dir In dir && holds (λ (x : ℕ × List ℕ). k == x.0) (as_block m)

abbrev pub taken_up_to : List Spelled → ℕ → Bool
taken_up_to ts zero = true
taken_up_to ts (suc j) = some (is_taken (suc j)) ts && taken_up_to ts j

abbrev pub block_keeps : Terms → List Spelled → ℕ → List ℕ → EndRule → Bool
block_keeps t ts k bytes EndRule.NotStarted = may_start t.side t.reply (used_of ts)
block_keeps t ts k bytes EndRule.BlockZero = not (k == 0)
block_keeps t ts k bytes EndRule.BeyondBlock65535 = nat_le k t.greatest && (not (k == t.greatest) || nat_lt (length bytes) t.blksize)
block_keeps t ts k bytes EndRule.BlockLength = length_fits t ts k (length bytes)
block_keeps t ts k bytes EndRule.WindowOverrun = in_window t (used_of ts) k
block_keeps t ts k bytes EndRule.BlockSkipped = not (is_sender t) || (nat_le k 1 || some (is_next k) ts)
block_keeps t ts k bytes EndRule.GoneBack = not (is_sender t) || (not (t.windowsize == 1) || every (not_above k) ts)
block_keeps t ts k bytes EndRule.BlockChanged = every (not_changed k bytes) ts
block_keeps t ts k bytes EndRule.AckAhead = true
block_keeps t ts k bytes EndRule.AckZero = true

abbrev pub ack_keeps : Terms → List Spelled → ℕ → EndRule → Bool
ack_keeps t ts j EndRule.AckAhead = j == 0 || ((not (is_sender t) || some (reaches j) (used_of ts)) && (not (is_receiver t) || taken_up_to (used_of ts) j))
ack_keeps t ts j EndRule.AckZero = not (j == 0) || may_be_zero t.side t.reply (used_of ts)
ack_keeps t ts j _ = true

abbrev pub end_keeps : Option Terms → List Spelled → Message → EndRule → Bool
end_keeps (Some t) ts (Message.Data k bytes) rule = block_keeps t ts k bytes rule
end_keeps (Some t) ts (Message.Ack j) rule = ack_keeps t ts j rule
end_keeps _ ts m rule = true

-- the datagram is one of the transfer
abbrev pub is_main : Header → List Spelled → Spelled → Bool
is_main h es e = is_of_transfer (route_of h (datagrams es) e.0)

abbrev pub keeps : Header → Option Terms → List Spelled → Spelled → Rule → Bool
keeps h t es e (Rule.Port PortRule.Foreign) = not_foreign (route_of h (datagrams es) e.0)
keeps h t es e (Rule.Port PortRule.Wrong) = not_wrong (route_of h (datagrams es) e.0)
keeps h t es e (Rule.Port PortRule.BadAnswer) = answers_well (route_of h (datagrams es) e.0) e.1
keeps h t es e Rule.NoRequest = not (not_asked (asked_by (first_asked h es))) || not_peer (route_of h (datagrams es) e.0)
keeps h t es e Rule.WrongKind = not (is_main h es e) || kind_is_right (author_of h.named e.0.dir) (asked_by (first_asked h es)) e.1
keeps h t es e Rule.AfterError = not (is_main h es e) || every (same_stop e.0.dir e.1) (main_of h es)
keeps h t es e Rule.RequestChanged = not (is_main h es e) || (not_request e.1 || not_asked (asked_by (first_asked h es)))
keeps h t es e Rule.RequestAfterStart = not (is_main h es e) || (not_request e.1 || every went_on (main_of h es))
keeps h t es e Rule.ReplyChanged = not (is_main h es e) || (not_oack e.1 || no_plain_answer (asked_by (first_asked h es)) (main_of h es))
keeps h t es e Rule.OackAfterStart = not (is_main h es e) || (not_oack e.1 || every sent_no_block (main_of h es))
keeps h t es e _ = true

-- the rules of which `keeps` tells more
abbrev pub tested : List Rule
tested = Rule.Port PortRule.Foreign ∷ Rule.Port PortRule.Wrong ∷ Rule.Port PortRule.BadAnswer ∷ Rule.NoRequest ∷ Rule.WrongKind ∷ Rule.AfterError ∷ Rule.RequestChanged ∷ Rule.RequestAfterStart ∷ Rule.ReplyChanged ∷ Rule.OackAfterStart ∷ []

-- the number behind the last rule
abbrev pub past_all : ℕ
past_all = rule_count + 1

-- each rule below n is kept
abbrev pub keeps_below : ℕ → Header → Option Terms → List Spelled → Spelled → Bool
keeps_below n h t es e =
    list_all (λ rule. (nat_le n (number_of rule) && nat_le n rule_count) || keeps h t es e rule) tested
    && list_all (λ rule. (nat_le n (number_of (Rule.Block rule)) && nat_le n rule_count) || (not (is_main h es e) || end_keeps t (main_of h es) e.1 rule)) end_rules
