-- What a client's capture is like, as far as the division of a recording looks at it. Lists have the newest first.
use Rattle.std.specs.Prelude.{◌≡◌, ◌≤◌, ◌+◌, ℕ, ◌&&◌, not, Bool, true, false, List, [], ◌∷◌, map, if◌then◌else◌}
use Rattle.std.specs.List.{list_any, AllByRecursion}
use Rattle.law_end.specs.{OneEnded}
use Rattle.audit_flows.specs.Lines.{Recorded, same_endpoint, begins_request, begins_error, asks_alike, goes, is_between, other_of, silence}
use Rattle.audit_flows.specs.{Address, Endpoint}
use Rattle.audit_spared.specs.Spared.Seen.{as_seen_by, at_client_of}
use Rattle.audit_flows.specs.Lines.Recording.{is_answer}

-- the client sent it
abbrev pub goes_from : Endpoint → Recorded → Bool
goes_from c d = same_endpoint d.source c

-- it came to the client
abbrev pub comes_at : Endpoint → Recorded → Bool
comes_at c d = not (goes_from c d)

-- the client asks
abbrev pub asks_from : Endpoint → Recorded → Bool
asks_from c d = goes_from c d && begins_request d.payload

-- the client sent what is no request and no ERROR
abbrev pub goes_on_from : Endpoint → Recorded → Bool
goes_on_from c d = if begins_request d.payload then false else (goes_from c d && not (begins_error d.payload))

-- What may come next at a client that has these behind it. The first is a request; each request is for the same file; and the
-- client speaks to whom it has heard.
pub record Follows (c : Endpoint) (k : List Recorded) (d : Recorded) : Type 0 where
  pub here : is_between c (other_of c d) d ≡ true
  pub first : k ≡ [] → asks_from c d ≡ true
  pub service : asks_from c d ≡ true → d.target.port ≡ 69
  pub alike : asks_from c d ≡ true → AllByRecursion (λ e. asks_from c e ≡ true → asks_alike e d ≡ true) k
  pub known : goes_from c d ≡ true → begins_request d.payload ≡ false → list_any (λ e. goes d.target c e && comes_at c e) k ≡ true

-- what comes first is an answer
abbrev pub AnswersFirst : Endpoint → List Recorded → Type 0
AnswersFirst c [] = Unit {0}
AnswersFirst c (d ∷ k) = (goes_from c d ≡ false → list_any (comes_at c) k ≡ false → is_answer d.payload ≡ true) × AnswersFirst c k

-- no request comes once its client has sent a block or an ACK
abbrev pub AsksInTime : Endpoint → List Recorded → Type 0
AsksInTime c [] = Unit {0}
AsksInTime c (d ∷ k) = (asks_from c d ≡ true → list_any (goes_on_from c) k ≡ false) × AsksInTime c k

-- ---- captures one after another, at one client

-- lawful, as the client saw it
abbrev pub IsLawfulAt : (Address → List ℕ) → Endpoint → List Recorded → Type 0
IsLawfulAt write c k = OneEnded (at_client_of 69) (map (as_seen_by write c) k)

-- the next datagram at the client: the first of the next capture, or, not 300 s later, one more of this one; `lawful` says
-- which captures may be
pub data IsNext (lawful : List Recorded → Type 0) (c : Endpoint) (before : List Recorded → Type 0) (d : Recorded) (k : List Recorded) : Type 0 where
  begins : (k0 : List Recorded) → before k0 → Follows c [] d → lawful (d ∷ []) → k ≡ d ∷ [] → IsNext lawful c before d k
  goes_on : (e : Recorded) (k0 : List Recorded) → before (e ∷ k0) → Follows c (e ∷ k0) d → d.time ≤ e.time + silence → lawful (d ∷ e ∷ k0) → k ≡ d ∷ e ∷ k0 → IsNext lawful c before d k

-- these are captures, one after another, of which this one is the newest, as far as it goes
abbrev pub AreCaptures : (List Recorded → Type 0) → Endpoint → List Recorded → List Recorded → Type 0
AreCaptures lawful c [] k = k ≡ []
AreCaptures lawful c (d ∷ ds) k = IsNext lawful c (AreCaptures lawful c ds) d k

-- the times do not go back
abbrev pub AreInOrder : List Recorded → Type 0
AreInOrder [] = Unit {0}
AreInOrder (d ∷ []) = Unit {0}
AreInOrder (d ∷ e ∷ older) = (e.time ≤ d.time) × AreInOrder (e ∷ older)
