-- Which transfers of two recordings may be one transfer's at its two ends: those that have the same request (RFC 1350, section 5).
use Rattle.std.specs.Prelude.{◌≡◌, ◌⊎◌, ℕ, Any, List, [], ◌∷◌, Option, Some, None, flat_map, length, map}
use Rattle.tftp_packet.specs.{Request, RequestParts, Spells}
use Rattle.audit_recording.specs.declared.session.requests.Asked.{Asked}

-- ---- requests

-- the request that a payload spells, if it spells one
abbrev pub IsRequestIn : List ℕ → Option RequestParts → Type 0
IsRequestIn payload (Some request) = Spells payload (Request request)
IsRequestIn payload None = (request : RequestParts) → Spells payload (Request request) → ⊥

-- both payloads spell a request, and the same one
pub record HaveOneRequest (payload other : List ℕ) : Type 0 where
  pub request : RequestParts
  pub spelled : Spells payload (Request request)
  pub again : Spells other (Request request)

-- some of these transfers has the request that the payload spells
abbrev pub HasSome : List Asked → List ℕ → Type 0
HasSome others payload = Any (λ other. HaveOneRequest payload other.payload.now) others

-- ---- which of a list have a property

-- The second list has what is told of those of the first that have it, of each as often as it stands there, in their order.
pub data AreThose {A B : Type 0} (Has : A → Type 0) (told : A → B) : List A → List B → Type 0 where
  nothing : AreThose Has told [] []
  kept : (x : A) (all : List A) (those : List B) → Has x → AreThose Has told all those → AreThose Has told (x ∷ all) (told x ∷ those)
  left_out : (x : A) (all : List A) (those : List B) → (Has x → ⊥) → AreThose Has told all those → AreThose Has told (x ∷ all) those

-- ---- pairs

abbrev pub HaveOne : Asked × Asked → Type 0
HaveOne pair = HaveOneRequest pair.0.payload.now pair.1.payload.now

abbrev pub numbers_in : Asked × Asked → ℕ × ℕ
numbers_in pair = (pair.0.number, pair.1.number)

-- a transfer of the client with each of these
abbrev pub with_each : List Asked → Asked → List (Asked × Asked)
with_each servers client = map (λ server. (client, server)) servers

-- of all pairs of a client's transfer and a server's, those of the first client's first, the numbers of those that have one
-- request
abbrev pub ArePairs : List Asked → List Asked → List (ℕ × ℕ) → Type 0
ArePairs clients servers = AreThose HaveOne numbers_in (flat_map (with_each servers) clients)

-- ---- one side of them

-- each side has one transfer alone
abbrev pub AreSole : List Asked → List Asked → Type 0
AreSole own others = (length own ≡ 1) × (length others ≡ 1)

-- the transfer with this payload is meant: it has the request of some of the other side, or each side has one alone
abbrev pub IsMeant : List Asked → List Asked → List ℕ → Type 0
IsMeant own others payload = AreSole own others ⊎ HasSome others payload

-- the numbers of those that are meant
abbrev pub AreMeant : List Asked → List Asked → List ℕ → Type 0
AreMeant own others = AreThose (λ asked. IsMeant own others asked.payload.now) (λ asked. asked.number) own

-- one transfer of each side is meant, these being the numbers of those that are
abbrev pub IsOneEach : List ℕ → List ℕ → Type 0
IsOneEach own others = (length own ≡ 1) × (length others ≡ 1)
