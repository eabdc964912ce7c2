-- What is kept of a client's line while its captures follow one another: the newest transfer is doubtful, or its view is its
-- part of the newest capture and what was asked before in the same words.
use Rattle.std.proofs.Common.{◌≡◌, ◌≢◌, ℕ, Bool, true, false, List, [], ◌∷◌, ◌++◌, ◌&&◌, not, Contains, Some, map}
use Rattle.std.specs.List.{list_any, AllByRecursion, filter}
use Rattle.tftp_packet.specs.{Message, OptionMap, Spells}
use Rattle.law_model.specs.Rules.{first_of}
use Rattle.audit_flows.specs.Lines.{Recorded, Placed, is_between, other_of, is_of, is_request, newest_of, reach, line, transfer_of, latest_in, answered_in, says_more, asks_alike, is_alike_in, goes, comes_in, last_was_ack_0, has_window}
use Rattle.audit_flows.specs.{Endpoint, Place, Talks, Transfer}
use Rattle.audit_flows.specs.Lines.Recording.{is_answer, is_data_1}
use Rattle.audit_flows.specs.Transfers.{client_view, comes}
use Rattle.audit_flows.proofs.TransfersLemmas.Ends.{spoken}
use Rattle.audit_spared.specs.Spared.{is_doubted_there, AnswersFirst, AsksInTime, asks_from, comes_at, goes_from, goes_on_from}

abbrev pub new : Recorded → ℕ → Place → Placed
new d now place = record { datagram = d; moment = now; place = place }

-- it is a request, or it is talked of a transfer of the client's
pub data IsPlain (c : Endpoint) (q : Placed) : Type 0 where
  asks : (x : Transfer) → is_request q ≡ true → transfer_of q.place ≡ Some x → IsPlain c q
  talks : (y : Transfer) → q.place ≡ Talks y → y.client ≡ c → IsPlain c q

-- the same from and to the same
pub record Same (one other : Recorded) : Type 0 where
  pub payload : one.payload ≡ other.payload
  pub source : one.source ≡ other.source
  pub target : one.target ≡ other.target

-- a request on top is the latest transfer's
abbrev pub TopIs : Transfer → List Placed → Type 0
TopIs x [] = Unit {0}
TopIs x (q ∷ ps) = is_request q ≡ true → transfer_of q.place ≡ Some x

abbrev pub ends_in_request : List Placed → Bool
ends_in_request [] = true
ends_in_request (q ∷ ps) = is_request q

-- the oldest is a request of the transfer, the same as this
abbrev pub Bottom : Recorded → ℕ → List Placed → Type 0
Bottom r n [] = ⊥
Bottom r n (q ∷ []) = (is_request q ≡ true) × (is_of n q ≡ true) × Same q.datagram r
Bottom r n (q ∷ s ∷ ps) = Bottom r n (s ∷ ps)

abbrev pub OthersOf : ℕ → Placed → Type 0
OthersOf n q = is_request q ≡ false → is_of n q ≡ false

-- what was asked before in the same words, of the transfer
pub record AskedBefore (older kp : List Placed) (n : ℕ) : Type 0 where
  pub r : Recorded
  pub before : List Placed
  pub view : client_view n older ≡ filter (is_of n) kp ++ before
  pub repeated : AllByRecursion (λ q. (is_request q ≡ true) × Same q.datagram r) before

pub record Asking (c : Endpoint) (k : List Recorded) (older kp rest : List Placed) (x : Transfer) : Type 0 where
  pub none_came : list_any (comes_at c) k ≡ false
  pub asked : AskedBefore older kp x.number
  pub own : AllByRecursion (λ q. (is_request q ≡ true) × (is_of x.number q ≡ true) × Same q.datagram asked.r) kp
  pub others : AllByRecursion (OthersOf x.number) (kp ++ rest)

-- it came to its client, and is no request
abbrev pub came_in : Placed → Bool
came_in q = comes_in q []

-- it came from this endpoint
abbrev pub came_from : Endpoint → Endpoint → Recorded → Bool
came_from c o d = goes o c d && comes_at c d

-- if it came, it is no answer
abbrev pub IsNoAnswer : Endpoint → Placed → Type 0
IsNoAnswer c q = goes_from c q.datagram ≡ false → is_answer q.datagram.payload ≡ false

-- something had come from whom it passed with
abbrev pub IsHeard : Endpoint → List Placed → Placed → Type 0
IsHeard c ps q = is_request q ≡ false → list_any (λ e. came_from c (other_of c q.datagram) e.datagram) ps ≡ true

-- Of what passed but requests nothing is of the transfer; and no answer came.
pub record Unanswered (c : Endpoint) (older kp rest : List Placed) (x : Transfer) : Type 0 where
  pub asked : AskedBefore older kp x.number
  pub bottom : Bottom asked.r x.number kp
  pub requests : AllByRecursion (λ q. is_request q ≡ true → (is_of x.number q ≡ true) × Same q.datagram asked.r) kp
  pub others : AllByRecursion (OthersOf x.number) (kp ++ rest)
  pub silent : AllByRecursion (IsNoAnswer c) kp
  pub heard : AllByRecursion (IsHeard c kp) kp

-- the same, once something has come
pub record Waiting (c : Endpoint) (k : List Recorded) (older kp rest : List Placed) (x : Transfer) : Type 0 where
  pub strayed : AnswersFirst c k → ⊥
  pub ends : ends_in_request kp ≡ false
  pub core : Unanswered c older kp rest x

-- the first of the transfer that came, and what stood before it in the capture
pub record Opened (c : Endpoint) (older kp : List Placed) (n : ℕ) : Type 0 where
  pub opener : Placed
  pub view : first_of came_in (client_view n older) ≡ Some opener
  pub newer : List Placed
  pub early : List Placed
  pub split : kp ≡ newer ++ opener ∷ early
  pub from : goes_from c opener.datagram ≡ false
  pub silent : AllByRecursion (IsNoAnswer c) early
  pub others : AllByRecursion (OthersOf n) early

-- From where the first of the transfer came, something had come before in the capture.
pub record Misled (c : Endpoint) (k : List Recorded) (older kp rest : List Placed) (x : Transfer) : Type 0 where
  pub strayed : AnswersFirst c k → ⊥
  pub ends : ends_in_request kp ≡ false
  pub by : Endpoint
  pub answered : answered_in x (kp ++ rest) ≡ Some by
  pub opened : Opened c older kp x.number
  pub first : by ≡ other_of c opened.opener.datagram
  pub heard : list_any (λ e. came_from c (other_of c opened.opener.datagram) e.datagram) opened.early ≡ true

pub record Answered (c : Endpoint) (k : List Recorded) (older kp rest : List Placed) (x : Transfer) : Type 0 where
  pub came : list_any (comes_at c) k ≡ true
  pub asked : AskedBefore older kp x.number
  pub bottom : Bottom asked.r x.number kp
  pub by : Endpoint
  pub answered : answered_in x (kp ++ rest) ≡ Some by
  pub ends : ends_in_request kp ≡ false
  -- with whom the client talks in this transfer
  pub talked : Endpoint → Bool
  pub requests : AllByRecursion (λ q. is_request q ≡ true → is_of x.number q ≡ true) kp
  pub talks : AllByRecursion (λ q. is_request q ≡ false → is_of x.number q ≡ talked (other_of c q.datagram)) kp
  pub others : AllByRecursion (OthersOf x.number) rest
  -- the first that came is the server's
  pub server : Endpoint
  pub is_talked : talked server ≡ true
  pub serves : list_any (spoken c server) kp ≡ true
  pub opened : Opened c older kp x.number
  pub first : other_of c opened.opener.datagram ≡ server
  pub by_server : by ≡ server

-- what is no request passed with this endpoint
abbrev pub AreWith : Endpoint → Endpoint → List Placed → Type 0
AreWith c o ps = AllByRecursion (λ q. is_request q ≡ false → other_of c q.datagram ≡ o) ps

-- the newest, if it is a request, is the same as this
abbrev pub TopSame : Recorded → List Placed → Type 0
TopSame r [] = Unit {0}
TopSame r (q ∷ ps) = is_request q ≡ true → Same q.datagram r

-- it is talked of another transfer
abbrev pub talks_apart : ℕ → Placed → Bool
talks_apart n q = not (is_request q) && not (is_of n q)

-- the client went on by it, in another transfer
abbrev pub goes_on_apart : Endpoint → ℕ → Placed → Bool
goes_on_apart c n q = goes_on_from c q.datagram && talks_apart n q

-- The client asked once it had gone on, and by that opened a transfer, of which nothing is talked yet.
pub record Reopened (c : Endpoint) (k : List Recorded) (older kp rest : List Placed) (x : Transfer) : Type 0 where
  pub untimely : AsksInTime c k → ⊥
  pub went_on : list_any (goes_on_from c) k ≡ true
  pub asked : AskedBefore older kp x.number
  pub there : Contains k asked.r
  pub asks_it : asks_from c asked.r ≡ true
  pub same : AllByRecursion (λ q. is_of x.number q ≡ true → (is_request q ≡ true) × Same q.datagram asked.r) kp
  pub top_same : TopSame asked.r kp
  pub others : AllByRecursion (OthersOf x.number) (kp ++ rest)

-- What opened it so: an answer, but no DATA 1 to a client whose last word there was ACK 0; and its client had gone on before.
pub record Reopener (c : Endpoint) (n : ℕ) (kp rest : List Placed) : Type 0 where
  pub opener : Placed
  pub newer : List Placed
  pub early : List Placed
  pub split : kp ≡ newer ++ opener ∷ early
  pub own : is_of n opener ≡ true
  pub from : goes_from c opener.datagram ≡ false
  pub answers : is_answer opener.datagram.payload ≡ true
  pub no_next : (is_data_1 opener.datagram.payload && last_was_ack_0 c (other_of c opener.datagram) (early ++ rest)) ≡ false
  pub others : AllByRecursion (OthersOf n) early
  pub went : list_any (λ q. goes_on_from c q.datagram) early ≡ true

-- What was talked of the transfer before is talked of that one now.
pub record Taken (c : Endpoint) (k : List Recorded) (older kp rest : List Placed) (x : Transfer) : Type 0 where
  pub untimely : AsksInTime c k → ⊥
  pub ends : ends_in_request kp ≡ false
  pub asked : AskedBefore older kp x.number
  pub came : list_any (comes x.number) older ≡ true
  pub there : Contains k asked.r
  pub asks_it : asks_from c asked.r ≡ true
  pub went : list_any (goes_on_apart c x.number) kp ≡ true
  pub opened : Reopener c x.number kp rest

-- The client talks with more than one.
pub record Mixed (c : Endpoint) (k : List Recorded) (kp : List Placed) : Type 0 where
  pub untimely : AsksInTime c k → ⊥
  pub ends : ends_in_request kp ≡ false
  pub mixed : (o : Endpoint) → AreWith c o kp → ⊥

pub data State (c : Endpoint) (k : List Recorded) (older kp rest : List Placed) (x : Transfer) : Type 0 where
  doubted : is_doubted_there x.number older ≡ true → State c k older kp rest x
  asking : Asking c k older kp rest x → State c k older kp rest x
  waiting : Waiting c k older kp rest x → State c k older kp rest x
  misled : Misled c k older kp rest x → State c k older kp rest x
  answered : Answered c k older kp rest x → State c k older kp rest x
  reopened : Reopened c k older kp rest x → State c k older kp rest x
  taken : Taken c k older kp rest x → State c k older kp rest x
  mixed : Mixed c k kp → State c k older kp rest x

-- whether the transfer's request names windows a request of the capture tells
pub record TermsOf (c : Endpoint) (k : List Recorded) (y : Transfer) : Type 0 where
  pub request : Recorded
  pub there : Contains k request
  pub asks : asks_from c request ≡ true
  pub same : y.has_window ≡ has_window request.payload

-- what came first is an OACK
abbrev pub BeginsOacked : Endpoint → List Recorded → Type 0
BeginsOacked c k = (d : Recorded) × (options : OptionMap) × (first_of (comes_at c) k ≡ Some d) × Spells d.payload (Message.Oack options)

abbrev pub HasTerms : Endpoint → List Recorded → Placed → Type 0
HasTerms c k q = (y : Transfer) → q.place ≡ Talks y → TermsOf c k y

abbrev pub TopTerms : Transfer → List Placed → Type 0
TopTerms x [] = Unit {0}
TopTerms x (q ∷ ps) = is_request q ≡ true → x.has_window ≡ has_window q.datagram.payload

-- Where one endpoint answers, and by an OACK first, all that is talked is of transfers that the capture's requests opened.
pub record Terms (c : Endpoint) (k : List Recorded) (kp rest : List Placed) (x : Transfer) : Type 0 where
  pub latest : TermsOf c k x
  pub top : TopTerms x kp
  pub unheard : ends_in_request kp ≡ true → AllByRecursion (OthersOf x.number) (kp ++ rest)
  pub unspoken : list_any (comes_at c) k ≡ false → AllByRecursion (λ q. is_request q ≡ true) kp
  pub talked : (o : Endpoint) → AreWith c o kp → BeginsOacked c k → AllByRecursion (HasTerms c k) kp

-- it is a request exactly if the client asks by it, and it passed at the client
pub record IsKnown (c : Endpoint) (q : Placed) : Type 0 where
  pub kind : is_request q ≡ asks_from c q.datagram
  pub here : is_between c (other_of c q.datagram) q.datagram ≡ true

-- The newest of the line are the capture's, and the latest transfer is such.
pub record Has (c : Endpoint) (k : List Recorded) (older kp rest : List Placed) (x : Transfer) : Type 0 where
  pub whole : line c older ≡ kp ++ rest
  pub some : kp ≢ []
  pub are : map (λ p. p.datagram) kp ≡ k
  pub known : AllByRecursion (IsKnown c) kp
  pub plain : AllByRecursion (IsPlain c) (kp ++ rest)
  pub latest : latest_in (kp ++ rest) ≡ Some x
  pub client : x.client ≡ c
  pub top : TopIs x kp
  pub more : list_any says_more (reach (kp ++ rest)) ≡ true → list_any (goes_on_from c) k ≡ true
  pub pure : ends_in_request kp ≡ true → list_any says_more (reach (kp ++ rest)) ≡ false
  pub alike : (d : Recorded) → AllByRecursion (λ e. asks_from c e ≡ true → asks_alike e d ≡ true) k → is_alike_in d (newest_of is_request (kp ++ rest)) ≡ true
  pub terms : Terms c k kp rest x
  pub state : State c k older kp rest x
