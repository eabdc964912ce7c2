-- The captures of the worked recordings are lawful: reads of one byte.
use Rattle.std.proofs.Common.{ap, sym, subst, ◌≡◌, ℕ, ◌<◌, Bool, true, false, nat_lt, List, [], ◌∷◌, Any, codes, inl, inr, refl, reverse, arith, None, Option}
use Rattle.std.proofs.lemmas.Bool.{and_parts, ltb-true, true≢false}
use Rattle.std.specs.List.{AllByRecursion, list_all}
use Rattle.tftp_packet.specs.{Message, OptionValue, no_options, Get, Octet, Client, Server, IsString, Spells}
use Rattle.tftp_packet.specs.Spelling.{octet_read}
use Rattle.tftp_packet.specs.Hosts.{Datagram, Header, peer_of}
use Rattle.tftp_packet.specs.{In, Out, Rollover}
use Rattle.tftp_packet.proofs.RoundsLemmas.Greatest.{two_bytes_within}
use Rattle.law_model.specs.Model.{Meaning, request_of, block, block_count, blksize_of, Req, Data, Ack, Error, Sent, Took, message_of, Step, view_of}
use Rattle.law_model.proofs.ModelLemmas.Computed.{Plan, IsPlan, is_run, run_is}
use Rattle.law_model.proofs.ModelLemmas.Defaults.{default_blksize, default_windowsize}
use Rattle.law_end.specs.{Fits, IsLawful, Main, Division, datagrams_of, view_in, TransferIds, HasLabel, HaveLabels}
use Rattle.law_end.proofs.Whole.NothingAgreed.{none_there, nothing_may_be_agreed_by}
use Rattle.audit_flows.specs.Transfers.{ack_of, data_of}
use Rattle.audit_flows.specs.Transfers.Worked.{error_of, read_of}

-- ---- what the payloads spell

module _ (test : ℕ → Bool) (P : ℕ → Type 0) (tells : (x : ℕ) → test x ≡ true → P x) where
  all_from : (xs : List ℕ) → list_all test xs ≡ true → AllByRecursion P xs
  all_from [] e = tt
  all_from (x ∷ xs) e = let parts = and_parts (test x) (list_all test xs) e in (tells x parts.0, all_from xs parts.1)

pub bytes_are : (xs : List ℕ) → list_all (λ b. nat_lt b 256) xs ≡ true → AllByRecursion (λ b. b < 256) xs
bytes_are = all_from (λ b. nat_lt b 256) (λ b. b < 256) (λ b e. ltb-true b 256 e)

pub string_is : (xs : List ℕ) → list_all (λ b. nat_lt 0 b) xs ≡ true → IsString xs
string_is = all_from (λ b. nat_lt 0 b) (λ b. b ≡ 0 → ⊥) (λ b e is. let low = ltb-true 0 b e in omega arith)

pub f_spelled : Spells (read_of (codes "f")) (Message.Request (octet_read (codes "f")))
f_spelled = (
  bytes_are (read_of (codes "f")) refl,
  record {
    mode_text = codes "octet";
    pairs = [];
    bytes = refl;
    strung = (string_is (codes "f") refl, (string_is (codes "octet") refl, tt));
    named = tt;
    apart = tt;
    mode = refl;
    options = refl;
    short = λ some. absurd (some refl);
  },
)

pub g_spelled : Spells (read_of (codes "g")) (Message.Request (octet_read (codes "g")))
g_spelled = (
  bytes_are (read_of (codes "g")) refl,
  record {
    mode_text = codes "octet";
    pairs = [];
    bytes = refl;
    strung = (string_is (codes "g") refl, (string_is (codes "octet") refl, tt));
    named = tt;
    apart = tt;
    mode = refl;
    options = refl;
    short = λ some. absurd (some refl);
  },
)

pub block_spelled : Spells (data_of 1) (Message.Data 1 (5 ∷ []))
block_spelled = let bytes = bytes_are (data_of 1) refl in ((bytes.0, (bytes.1.0, bytes.1.1.1)), (0, 1, (omega arith, omega arith), refl))

pub ack_spelled : Spells (ack_of 1) (Message.Ack 1)
ack_spelled = let bytes = bytes_are (ack_of 1) refl in ((bytes.0, (bytes.1.0, bytes.1.1.1)), (0, 1, (omega arith, omega arith), refl))

pub stop_spelled : Spells (error_of 1) (Message.Error 1 [])
stop_spelled = (bytes_are (error_of 1) refl, (0, 1, (omega arith, omega arith, omega arith), tt, refl))

pub full_spelled : Spells (error_of 2) (Message.Error 2 [])
full_spelled = (bytes_are (error_of 2) refl, (0, 2, (omega arith, omega arith, omega arith), tt, refl))

pub error_spelled : Spells (error_of 5) (Message.Error 5 [])
error_spelled = (bytes_are (error_of 5) refl, (0, 5, (omega arith, omega arith, omega arith), tt, refl))

-- ---- the meaning

module _ (name : List ℕ) where
  abbrev pub meaning : Meaning
  meaning = record { side = Get; name = name; mode = Octet; requested = no_options; agreed = no_options; file = 5 ∷ [] }

  abbrev pub plan : Plan
  plan = record { agreed = false; windowsize = 1; blocks = 1 }

  one_block : block_count (blksize_of meaning) (5 ∷ []) ≡ 1
  one_block = ap (λ b. block_count b (5 ∷ [])) (default_blksize meaning refl)

  first_block : 5 ∷ [] ≡ block (blksize_of meaning) (5 ∷ []) 1
  first_block = sym (ap (λ b. block b (5 ∷ []) 1) (default_blksize meaning refl))

  says_block : (d : Datagram) → d.payload ≡ data_of 1 → Spells d.payload (message_of meaning (5 ∷ []) (Data 1))
  says_block d payload = subst (λ p. Spells p (message_of meaning (5 ∷ []) (Data 1))) (sym payload) (subst (λ b. Spells (data_of 1) (Message.Data 1 b)) first_block block_spelled)

  is_plan : IsPlan meaning (5 ∷ []) plan
  is_plan = record { something = λ e. absurd (true≢false (sym e)); nothing = λ e. refl; windowsize = default_windowsize meaning refl; blocks = one_block }

  fits : (rollover : Option Rollover) → Fits rollover meaning (5 ∷ [])
  fits rollover = record {
    may_agree = nothing_may_be_agreed_by rollover (request_of meaning);
    reads = refl;
    size = λ mode size e. absurd (none_there (codes "tsize") (OptionValue.Num size) e);
    numbered = let least = two_bytes_within rollover in omega (arith, one_block);
  }

  -- so datagrams with such labels are lawful
  pub shown : (h : Header) (ids : TransferIds) (steps : List Step) (division : Division) (datagrams : List Datagram) → is_run Get plan steps ≡ true → view_in division ≡ view_of h.named steps
      → datagrams_of division ≡ reverse datagrams → HaveLabels h meaning (5 ∷ []) ids division → IsLawful h datagrams
  shown h ids steps division datagrams run view whole labels = (
    meaning,
    5 ∷ [],
    record {
      fits = fits h.rollover;
      view = view_of h.named steps;
      run = (steps, run_is meaning (5 ∷ []) plan steps is_plan run, refl);
      dressed = record { ids = ids; division = division; whole = whole; main = view; labels = labels };
    },
  )

  module _ (spelled : Spells (read_of name) (Message.Request (octet_read name))) (ids : TransferIds) (earlier : Division) (d : Datagram) where
    -- ---- at a client

    abbrev pub at_client : Header
    at_client = record { named = Client; service = 69; rollover = None }

    pub asked : d.dir ≡ Out → d.local ≡ ids.own → d.remote ≡ 69 → d.host ≡ ids.asked → d.payload ≡ read_of name → HasLabel at_client meaning (5 ∷ []) ids earlier d (Main (Sent Req))
    asked dir own service host payload = record {
      dir = dir;
      client = own;
      server = (service, λ e. host);
      spells = subst_payload payload spelled;
    } where
      subst_payload : d.payload ≡ read_of name → Spells (read_of name) (Message.Request (octet_read name)) → Spells d.payload (Message.Request (octet_read name))
      subst_payload is s = subst (λ p. Spells p (Message.Request (octet_read name))) (sym is) s

    pub came : d.dir ≡ In → d.local ≡ ids.own → peer_of d ≡ ids.peer → d.payload ≡ data_of 1 → HasLabel at_client meaning (5 ∷ []) ids earlier d (Main (Took (Data 1)))
    came dir own peer payload = record { dir = dir; client = own; server = (peer, inl dir); spells = says_block d payload }

    pub acked : d.dir ≡ Out → d.local ≡ ids.own → peer_of d ≡ ids.peer → d.payload ≡ ack_of 1 → Any (λ p. p.datagram.dir ≡ In) earlier → HasLabel at_client meaning (5 ∷ []) ids earlier d (Main (Sent (Ack 1)))
    acked dir own peer payload before = record { dir = dir; client = own; server = (peer, inr before); spells = subst (λ p. Spells p (Message.Ack 1)) (sym payload) ack_spelled }

    -- ---- at a server

    abbrev pub at_server : Header
    at_server = record { named = Server; service = 69; rollover = None }

    pub was_asked : d.dir ≡ In → peer_of d ≡ ids.peer → d.local ≡ 69 → d.payload ≡ read_of name → HasLabel at_server meaning (5 ∷ []) ids earlier d (Main (Took Req))
    was_asked dir peer service payload = record {
      dir = dir;
      client = peer;
      server = (service, λ e. let other : Server ≡ Client = e in absurd (cc));
      spells = subst (λ p. Spells p (Message.Request (octet_read name))) (sym payload) spelled;
    }

    pub went : d.dir ≡ Out → peer_of d ≡ ids.peer → d.local ≡ ids.own → d.payload ≡ data_of 1 → HasLabel at_server meaning (5 ∷ []) ids earlier d (Main (Sent (Data 1)))
    went dir peer own payload = record { dir = dir; client = peer; server = (own, inl dir); spells = says_block d payload }

    pub was_acked : d.dir ≡ In → peer_of d ≡ ids.peer → d.local ≡ ids.own → d.payload ≡ ack_of 1 → Any (λ p. p.datagram.dir ≡ Out) earlier → HasLabel at_server meaning (5 ∷ []) ids earlier d (Main (Took (Ack 1)))
    was_acked dir peer own payload before = record { dir = dir; client = peer; server = (own, inr before); spells = subst (λ p. Spells p (Message.Ack 1)) (sym payload) ack_spelled }

    pub told_error : d.dir ≡ Out → peer_of d ≡ ids.peer → d.local ≡ ids.own → d.payload ≡ error_of 1 → HasLabel at_server meaning (5 ∷ []) ids earlier d (Main (Sent (Error 1 [])))
    told_error dir peer own payload = record { dir = dir; client = peer; server = (own, inl dir); spells = subst (λ p. Spells p (Message.Error 1 [])) (sym payload) stop_spelled }

    pub was_told : (code : ℕ) → Spells (error_of code) (Message.Error code []) → d.dir ≡ In → peer_of d ≡ ids.peer → d.local ≡ ids.own → d.payload ≡ error_of code → Any (λ p. p.datagram.dir ≡ Out) earlier
        → HasLabel at_server meaning (5 ∷ []) ids earlier d (Main (Took (Error code [])))
    was_told code says dir peer own payload before = record { dir = dir; client = peer; server = (own, inr before); spells = subst (λ p. Spells p (Message.Error code [])) (sym payload) says }

-- the answer to a stray says so
pub error_5 : (text : List ℕ) × Spells (error_of 5) (Message.Error 5 text)
error_5 = ([], error_spelled)
