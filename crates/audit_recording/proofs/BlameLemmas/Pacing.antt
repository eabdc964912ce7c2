-- How a transfer goes in time, with one datagram more. Lists have the newest first.
use Rattle.std.proofs.Common.{◌≡◌, ◌∷◌, ◌+◌, ◌^◌, ◌-◌, ◌&&◌, not, ℕ, Bool, true, false, cond, min, List, Option, Some, None, refl, sym, ap, subst, ◌∙◌}
use Rattle.tftp_packet.specs.{End, Client, Server}
use Rattle.audit_flows.specs.{Transfer}
use Rattle.audit_flows.specs.Lines.{same_endpoint}
use Rattle.audit_recording.specs.Blame.Frames.{Framed}
use Rattle.audit_recording.specs.declared.blame.closing.Word.{Word}
use Rattle.audit_recording.specs.declared.blame.pace.Pace.{Pace}
use Rattle.audit_recording.specs.declared.blame.pace.Repeats.{Repeats}
use Rattle.audit_recording.specs.declared.blame.pace.Silence.{Silence}
use Rattle.audit_recording.specs.Endings.Told.{is_own, last_word, sender_at}
use Rattle.audit_recording.specs.Endings.Pace.{AreSent, IsPaceOf, IsSent, began, farther, is_again, is_by, is_within, longer, longest, or_later, reach_of, reached, repeats, silence_before, silence_of, silence_since}

-- ---- it is not between the two ends

pub pace_same : (p : Pace) (x : Transfer) (f : Framed) (view : List Framed) → is_own x f ≡ false → IsPaceOf p x view → IsPaceOf p x (f ∷ view)
pace_same p x f view off was = record {
  began = was.began ∙ sym (ap (λ b. cond b (or_later (began x view) f.carried.time) (began x view)) off);
  silence = was.silence ∙ sym (ap (λ b. cond b (longer (silence_before x f view) (longest x view)) (longest x view)) off);
  reached_by_client = was.reached_by_client ∙ sym (ap (λ b. cond (b && from) (farther (reach_of f.placed.datagram.payload) (reached x Client view)) (reached x Client view)) off);
  repeats_of_client = was.repeats_of_client ∙ sym (ap (λ b. cond ((b && from) && is_again x Client f view) (min (repeats x Client view + 1) (2 ^ 64 - 1)) (repeats x Client view)) off);
  reached_by_server = was.reached_by_server ∙ sym (ap (λ b. cond (b && not from) (farther (reach_of f.placed.datagram.payload) (reached x Server view)) (reached x Server view)) off);
  repeats_of_server = was.repeats_of_server ∙ sym (ap (λ b. cond ((b && not from) && is_again x Server f view) (min (repeats x Server view + 1) (2 ^ 64 - 1)) (repeats x Server view)) off);
} where
  from : Bool
  from = same_endpoint f.placed.datagram.source x.client

-- ---- it is

module _ (x : Transfer) (f : Framed) (view : List Framed) (own : is_own x f ≡ true) where
  pub began_more : (t : Option ℕ) → t ≡ began x view → or_later t f.carried.time ≡ began x (f ∷ view)
  began_more t was = ap (λ s. or_later s f.carried.time) was ∙ sym (ap (λ b. cond b (or_later (began x view) f.carried.time) (began x view)) own)

  pub silence_more : (s known : Option Silence) → s ≡ silence_before x f view → known ≡ longest x view → longer s known ≡ longest x (f ∷ view)
  silence_more s known is was =
      ap (λ t. longer t known) is ∙ ap (longer (silence_before x f view)) was
      ∙ sym (ap (λ b. cond b (longer (silence_before x f view) (longest x view)) (longest x view)) own)

  -- the end that sends it has come as far as it is, and the other one is where it was
  sender_more : (e : End) (old new : Repeats) → is_by x e f ≡ true → AreSent old new (reach_of f.placed.datagram.payload)
      → old.reached ≡ reached x e view → old.count ≡ repeats x e view → (new.reached ≡ reached x e (f ∷ view)) × (new.count ≡ repeats x e (f ∷ view))
  sender_more e old new by noted far count = (
    noted.reached ∙ ap (farther reach) far ∙ sym (ap (λ b. cond b (farther reach (reached x e view)) (reached x e view)) by),
    noted.count ∙ ap (λ r. cond (is_within reach r) (min (old.count + 1) (2 ^ 64 - 1)) old.count) far
        ∙ ap (λ k. cond (is_again x e f view) (min (k + 1) (2 ^ 64 - 1)) k) count
        ∙ sym (ap (λ b. cond (b && is_again x e f view) (min (repeats x e view + 1) (2 ^ 64 - 1)) (repeats x e view)) by),
  ) where
    reach : Option ℕ
    reach = reach_of f.placed.datagram.payload

  other_same : (e : End) (old : Repeats) → is_by x e f ≡ false → old.reached ≡ reached x e view → old.count ≡ repeats x e view
      → (old.reached ≡ reached x e (f ∷ view)) × (old.count ≡ repeats x e (f ∷ view))
  other_same e old by far count = (
    far ∙ sym (ap (λ b. cond b (farther (reach_of f.placed.datagram.payload) (reached x e view)) (reached x e view)) by),
    count ∙ sym (ap (λ b. cond (b && is_again x e f view) (min (repeats x e view + 1) (2 ^ 64 - 1)) (repeats x e view)) by),
  )

  module _ (old : Pace) (was : IsPaceOf old x view) (silence : Option Silence) (is : silence ≡ longest x (f ∷ view)) (noted : Repeats) where
    began_too : or_later old.began f.carried.time ≡ began x (f ∷ view)
    began_too = began_more old.began was.began

    pub by_client : same_endpoint f.placed.datagram.source x.client ≡ true → AreSent old.client noted (reach_of f.placed.datagram.payload)
        → IsPaceOf (record { began = or_later old.began f.carried.time; silence = silence; client = noted; server = old.server }) x (f ∷ view)
    by_client from sends =
        let more = sender_more Client old.client noted (ap (λ b. b && same_endpoint f.placed.datagram.source x.client) own ∙ from) sends was.reached_by_client was.repeats_of_client in
        let same = other_same Server old.server (ap (λ b. b && not (same_endpoint f.placed.datagram.source x.client)) own ∙ ap not from) was.reached_by_server was.repeats_of_server in
        record { began = began_too; silence = is; reached_by_client = more.0; repeats_of_client = more.1; reached_by_server = same.0; repeats_of_server = same.1 }

    pub by_server : same_endpoint f.placed.datagram.source x.client ≡ false → AreSent old.server noted (reach_of f.placed.datagram.payload)
        → IsPaceOf (record { began = or_later old.began f.carried.time; silence = silence; client = old.client; server = noted }) x (f ∷ view)
    by_server from sends =
        let more = sender_more Server old.server noted (ap (λ b. b && not (same_endpoint f.placed.datagram.source x.client)) own ∙ ap not from) sends was.reached_by_server was.repeats_of_server in
        let same = other_same Client old.client (ap (λ b. b && same_endpoint f.placed.datagram.source x.client) own ∙ from) was.reached_by_client was.repeats_of_client in
        record { began = began_too; silence = is; reached_by_client = same.0; repeats_of_client = same.1; reached_by_server = more.0; repeats_of_server = more.1 }

-- ---- who sends it

pub sent_by_client : (x : Transfer) (f : Framed) → Client ≡ sender_at x f.placed.datagram.source → same_endpoint f.placed.datagram.source x.client ≡ true
sent_by_client x f is = by (same_endpoint f.placed.datagram.source x.client) is where
  by : (b : Bool) → Client ≡ cond b Client Server → b ≡ true
  by true is = refl
  by false is = cc

pub sent_by_server : (x : Transfer) (f : Framed) → Server ≡ sender_at x f.placed.datagram.source → same_endpoint f.placed.datagram.source x.client ≡ false
sent_by_server x f is = by (same_endpoint f.placed.datagram.source x.client) is where
  by : (b : Bool) → Server ≡ cond b Client Server → b ≡ false
  by true is = cc
  by false is = refl

-- the silence that it ends, where a datagram had passed
pub silence_at : (x : Transfer) (f : Framed) (view : List Framed) (word : Word) → Some word ≡ last_word x view → (e : End) (again : Bool)
    → e ≡ sender_at x f.placed.datagram.source → again ≡ is_again x (sender_at x f.placed.datagram.source) f view
    → silence_of f e word again word.time f.carried.time ≡ silence_before x f view
silence_at x f view word last e again sends is =
    ap (λ d. silence_of f d word again word.time f.carried.time) sends
    ∙ ap (λ b. silence_of f (sender_at x f.placed.datagram.source) word b word.time f.carried.time) is
    ∙ ap (silence_since x f view) last

pub no_silence : (x : Transfer) (f : Framed) (view : List Framed) → None ≡ last_word x view → None ≡ silence_before x f view
no_silence x f view last = ap (silence_since x f view) last

-- ---- all together

module _ (x : Transfer) (f : Framed) (view : List Framed) (old mid : Pace) (was : IsPaceOf old x view) (again : Bool) where
  abbrev its_reach : Option ℕ
  its_reach = reach_of f.placed.datagram.payload

  pub again_is : (sender : End) → sender ≡ sender_at x f.placed.datagram.source → IsSent sender old mid (reach_of f.placed.datagram.payload) again
      → again ≡ is_again x (sender_at x f.placed.datagram.source) f view
  again_is Client at sent = sent.2 ∙ ap (is_within its_reach) was.reached_by_client ∙ ap (λ e. is_again x e f view) at
  again_is Server at sent = sent.2 ∙ ap (is_within its_reach) was.reached_by_server ∙ ap (λ e. is_again x e f view) at

  pub noted_all : is_own x f ≡ true → (sender : End) → sender ≡ sender_at x f.placed.datagram.source → IsSent sender old mid (reach_of f.placed.datagram.payload) again
      → (first : Option ℕ) → first ≡ or_later old.began f.carried.time → (silence : Option Silence) → silence ≡ longest x (f ∷ view)
      → IsPaceOf (record { began = first; silence = silence; client = mid.client; server = mid.server }) x (f ∷ view)
  noted_all own Client at sent first first_is silence is =
      subst (λ s. IsPaceOf (record { began = first; silence = silence; client = mid.client; server = s }) x (f ∷ view)) (sym sent.1)
      (subst (λ t. IsPaceOf (record { began = t; silence = silence; client = mid.client; server = old.server }) x (f ∷ view)) (sym first_is)
      (by_client x f view own old was silence is mid.client (sent_by_client x f at) sent.0))
  noted_all own Server at sent first first_is silence is =
      subst (λ s. IsPaceOf (record { began = first; silence = silence; client = s; server = mid.server }) x (f ∷ view)) (sym sent.1)
      (subst (λ t. IsPaceOf (record { began = t; silence = silence; client = old.client; server = mid.server }) x (f ∷ view)) (sym first_is)
      (by_server x f view own old was silence is mid.server (sent_by_server x f at) sent.0))
