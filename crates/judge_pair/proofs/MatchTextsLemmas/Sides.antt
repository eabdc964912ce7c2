-- The judge of a pair, with one of its ends first.
use Rattle.std.proofs.Common.{◌≡◌, ◌∷◌, List, false, true≢false, Option, Some, None, refl, sym, ◌∙◌, is_some}
use Rattle.tftp_packet.specs.{End, Client, Rollover, Server}
use Rattle.tftp_packet.specs.Hosts.{Datagram, Header}
use Rattle.law_model.specs.Rules.{transfer_of}
use Rattle.law_rollover.specs.{IsTaken}
use Rattle.tftp_judge.specs.{IsJudgeAfter, Judge, Refusal}
use Rattle.judge_pair.specs.Judge.{HasSame, IsPairAfter, Pair, Side, IsRestAfter}
use Rattle.judge_pair.specs.Judge.Rest.{Rest}
use Rattle.judge_pair.specs.MatchTexts.{IsPairAt, IsRestAt, judge_at, left_judge_at}

pub own_of_pair : (e : End) (p : Pair) (h k : Header) (read other : List Datagram) → IsPairAt e p h read k other → (judge_at e p).refused ≡ None → IsJudgeAfter (judge_at e p) h read
own_of_pair Client p h k read other at none = at.own_side.goes_on none
own_of_pair Server p h k read other at none = at.other_side.goes_on none

pub own_of_rest : (e : End) (r : Rest) (h k : Header) (read other : List Datagram) → IsRestAt e r h read k other → (left_judge_at e r).refused ≡ None → IsJudgeAfter (left_judge_at e r) h read
own_of_rest Client r h k read other at none = at.client_left.side.goes_on none
own_of_rest Server r h k read other at none = at.server_left.side.goes_on none

-- what is said of the client and of the server is said of either end
pub pair_grows : (rollover : Option Rollover) (e : End) (old new : Pair) (d : Datagram) (Also : Header → List Datagram → Datagram → Type 0)
    → (e ≡ Client → (h k : Header) (client server : List Datagram) (now : Datagram) → IsPairAfter old h client k server → IsTaken rollover (transfer_of h client) d now → Also h client now × IsPairAfter new h (now ∷ client) k server)
    → (e ≡ Server → (h k : Header) (client server : List Datagram) (now : Datagram) → IsPairAfter old h client k server → IsTaken rollover (transfer_of k server) d now → Also k server now × IsPairAfter new h client k (now ∷ server))
    → (h k : Header) (read other : List Datagram) (now : Datagram) → IsPairAt e old h read k other → IsTaken rollover (transfer_of h read) d now → IsPairAt e new h (now ∷ read) k other
pair_grows rollover Client old new d Also client server h k read other now at taken = (client refl h k read other now at taken).1
pair_grows rollover Server old new d Also client server h k read other now at taken = (server refl k h other read now at taken).1

pub pair_stays : (e : End) (old new : Pair) → ((h k : Header) (client server : List Datagram) → IsPairAfter old h client k server → IsPairAfter new h client k server)
    → (h k : Header) (read other : List Datagram) → IsPairAt e old h read k other → IsPairAt e new h read k other
pair_stays Client old new stays h k read other at = stays h k read other at
pair_stays Server old new stays h k read other at = stays k h other read at

pub pair_says : (rollover : Option Rollover) (e : End) (p : Pair) (d : Datagram) (Says : Header → List Datagram → Datagram → Type 0)
    → (e ≡ Client → (h k : Header) (client server : List Datagram) (now : Datagram) → IsPairAfter p h client k server → IsTaken rollover (transfer_of h client) d now → p.client.judge.refused ≡ None → Says h client now)
    → (e ≡ Server → (h k : Header) (client server : List Datagram) (now : Datagram) → IsPairAfter p h client k server → IsTaken rollover (transfer_of k server) d now → p.server.judge.refused ≡ None → Says k server now)
    → (h k : Header) (read other : List Datagram) (now : Datagram) → IsPairAt e p h read k other → (judge_at e p).refused ≡ None → IsTaken rollover (transfer_of h read) d now → Says h read now
pair_says rollover Client p d Says client server h k read other now at none taken = client refl h k read other now at taken none
pair_says rollover Server p d Says client server h k read other now at none taken = server refl k h other read now at taken none

pub rest_grows : (rollover : Option Rollover) (e : End) (old new : Rest) (d : Datagram)
    → (e ≡ Client → (h k : Header) (client server : List Datagram) (now : Datagram) → IsRestAfter old h client k server → IsTaken rollover (transfer_of h client) d now → IsRestAfter new h (now ∷ client) k server)
    → (e ≡ Server → (h k : Header) (client server : List Datagram) (now : Datagram) → IsRestAfter old h client k server → IsTaken rollover (transfer_of k server) d now → IsRestAfter new h client k (now ∷ server))
    → (h k : Header) (read other : List Datagram) (now : Datagram) → IsRestAt e old h read k other → IsTaken rollover (transfer_of h read) d now → IsRestAt e new h (now ∷ read) k other
rest_grows rollover Client old new d client server h k read other now at taken = client refl h k read other now at taken
rest_grows rollover Server old new d client server h k read other now at taken = server refl k h other read now at taken

pub rest_stays : (e : End) (old new : Rest) → ((h k : Header) (client server : List Datagram) → IsRestAfter old h client k server → IsRestAfter new h client k server)
    → (h k : Header) (read other : List Datagram) → IsRestAt e old h read k other → IsRestAt e new h read k other
rest_stays Client old new stays h k read other at = stays h k read other at
rest_stays Server old new stays h k read other at = stays k h other read at

pub rest_says : (rollover : Option Rollover) (e : End) (r : Rest) (d : Datagram) (Says : Header → List Datagram → Datagram → Type 0)
    → (e ≡ Client → (h k : Header) (client server : List Datagram) (now : Datagram) → IsRestAfter r h client k server → IsTaken rollover (transfer_of h client) d now → r.client.side.judge.refused ≡ None → Says h client now)
    → (e ≡ Server → (h k : Header) (client server : List Datagram) (now : Datagram) → IsRestAfter r h client k server → IsTaken rollover (transfer_of k server) d now → r.server.side.judge.refused ≡ None → Says k server now)
    → (h k : Header) (read other : List Datagram) (now : Datagram) → IsRestAt e r h read k other → (left_judge_at e r).refused ≡ None → IsTaken rollover (transfer_of h read) d now → Says h read now
rest_says rollover Client r d Says client server h k read other now at none taken = client refl h k read other now at taken none
rest_says rollover Server r d Says client server h k read other now at none taken = server refl k h other read now at taken none

pub same_twice : (a b c : Side) → HasSame a b → HasSame b c → HasSame a c
same_twice a b c (judge, acks, counts, highest) (judge_then, acks_then, counts_then, highest_then) = (judge_then ∙ judge, acks_then ∙ acks, counts_then ∙ counts, highest_then ∙ highest)

pub none_held : (held : Option Datagram) → is_some held ≡ false → held ≡ None
none_held None is = refl
none_held (Some d) is = absurd (true≢false is)

-- a judge that has refused a datagram
pub alone_stays : (j : Judge) (h : Header) (read : List Datagram) (refusal : Refusal) → j.refused ≡ Some refusal → j.refused ≡ None → IsJudgeAfter j h read
alone_stays j h read refusal is none = let e : Some refusal ≡ None = sym is ∙ none in absurd (cc)
