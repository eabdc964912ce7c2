-- Which pair of transfers is judged: the one that is meant on each side, or else the one that alone goes together of those tried.
use Rattle.std.specs.Prelude.{◌≡◌, ◌≤◌, ◌<◌, ℕ, Bool, List, [], ◌∷◌, Option, Some, None, filter, length}
use Rattle.audit_recording.specs.declared.session.requests.Asked.{Asked}
use Rattle.tftp_packet.specs.{Rollover}
use Rattle.judge_pair.specs.MatchTexts.Said.{IsPairSaidBy}
use Rattle.judge_pair.specs.declared.match_texts.said.PairSaid.{PairSaid}
use Rattle.tftp_match.specs.Candidates.{ArePairs, IsOneEach}
use Rattle.tftp_match.specs.Firsts.{is_matched}
use Rattle.tftp_match.specs.declared.choice.Choice.{Choice}
use Rattle.tftp_match.specs.declared.choice.Choice.TheVariants.{Nothing, Taken}
use Rattle.tftp_match.specs.declared.choice.Judged.{Judged}
use Rattle.tftp_match.specs.declared.choice.Tried.{Tried}
use Rattle.tftp_match.specs.declared.choice.Untaken.TheVariants.{NotAlone, TooMany}

-- the sole element of a list; none where it has none or several
abbrev pub sole : {A : Type 0} → List A → Option A
sole [] = None
sole (x ∷ []) = Some x
sole (x ∷ y ∷ more) = None

-- ---- what there is to say of a pair

-- this is said of the client's text and of the server's, as far as it is told what they are, by what comes after block 65535
pub record IsSaidOf (rollover : Option Rollover) (client server : Option (List ℕ)) (s : PairSaid) : Type 0 where
  pub client_left : Option (List ℕ)
  pub server_left : Option (List ℕ)
  pub client_failed : Bool
  pub server_failed : Bool
  pub said : IsPairSaidBy rollover client client_left server server_left client_failed server_failed s.client s.server s.together

-- of each of two captures which text its transfer with a number has, and what comes after block 65535
pub record Texts : Type 1 where
  pub rollover : Option Rollover
  pub client : ℕ → List ℕ → Type 0
  pub server : ℕ → List ℕ → Type 0

-- These are the texts of the pair with these numbers, and this is said of them.
pub record IsSaidOfPair (texts : Texts) (pair : ℕ × ℕ) (s : PairSaid) : Type 0 where
  pub client : List ℕ
  pub server : List ℕ
  pub client_is : texts.client pair.0 client
  pub server_is : texts.server pair.1 server
  pub said : IsSaidOf texts.rollover (Some client) (Some server) s

-- the pair was judged
abbrev pub IsJudged : Texts → Judged → Type 0
IsJudged texts j = IsSaidOfPair texts (j.client, j.server) j.said

-- ---- which are tried

-- at most so many
abbrev pub most_pairs : ℕ
most_pairs = 64

-- the texts of the pair with these numbers were judged together
pub record IsTried (texts : Texts) (pair : ℕ × ℕ) (t : Tried) : Type 0 where
  pub numbers : (t.client, t.server) ≡ pair
  pub said : PairSaid
  pub of_texts : IsSaidOfPair texts pair said
  pub goes : t.is_matched ≡ is_matched said

-- each of these pairs was tried, once and in this order
pub data AreTried (texts : Texts) : List (ℕ × ℕ) → List Tried → Type 0 where
  nothing : AreTried texts [] []
  one : (pair : ℕ × ℕ) (t : Tried) (pairs : List (ℕ × ℕ)) (tried : List Tried) → IsTried texts pair t → AreTried texts pairs tried → AreTried texts (pair ∷ pairs) (t ∷ tried)

-- the pairs that go together, of those that were tried
abbrev pub matched_in : List Tried → List Tried
matched_in tried = filter (λ t. t.is_matched) tried

-- ---- which is taken

-- of these, which have one request and are few enough, each was tried
pub record AllTried (texts : Texts) (clients servers : List Asked) (tried : List Tried) : Type 0 where
  pub pairs : List (ℕ × ℕ)
  pub are : ArePairs clients servers pairs
  pub few : length pairs ≤ most_pairs
  pub each : AreTried texts pairs tried

-- more pairs have one request than are tried
pub record AreTooMany (clients servers : List Asked) (count : ℕ) : Type 0 where
  pub pairs : List (ℕ × ℕ)
  pub are : ArePairs clients servers pairs
  pub many : most_pairs < length pairs
  pub count_is : count ≡ length pairs

-- the pair that alone goes together of those that were tried, and is judged
pub record IsAlone (texts : Texts) (clients servers : List Asked) (j : Judged) : Type 0 where
  pub tried : List Tried
  pub all : AllTried texts clients servers tried
  pub one : Tried
  pub alone : sole (matched_in tried) ≡ Some one
  pub client : j.client ≡ one.client
  pub server : j.server ≡ one.server
  pub judged : IsJudged texts j

-- What is chosen of the pairs with one request.
abbrev pub IsOfPairs : Texts → List Asked → List Asked → Choice → Type 0
IsOfPairs texts clients servers (Taken j) = IsAlone texts clients servers j
IsOfPairs texts clients servers (Nothing (TooMany count)) = AreTooMany clients servers count
IsOfPairs texts clients servers (Nothing (NotAlone tried)) = AllTried texts clients servers tried.items × (sole (matched_in tried.items) ≡ None)

-- What is chosen of transfers that were asked for this, of which those with these numbers are meant: where that is one on each side,
-- the two; or else what is chosen of the pairs with one request.
pub data IsChoice (texts : Texts) (clients servers : List Asked) (own others : List ℕ) : Choice → Type 0 where
  meant : (j : Judged) → own ≡ j.client ∷ [] → others ≡ j.server ∷ [] → IsJudged texts j → IsChoice texts clients servers own others (Taken j)
  of_pairs : (choice : Choice) → (IsOneEach own others → ⊥) → IsOfPairs texts clients servers choice → IsChoice texts clients servers own others choice
