-- The payloads of the packets that a transfer may need.
use Rattle.std.proofs.Common.{◌≡◌, ◌≢◌, ℕ, ◌≤◌, length, sym, subst, ap, ◌∙◌, Vec, Global, Result, Ok, Err, IfOk}
use Rattle.std.specs.FinMap as map
use Rattle.std.specs.FinMap.{len-empty}
use Rattle.std.specs.Ordering.{nat_cmp}
use Rattle.std.specs.Cmp.Lexicographic.{slice_cmp}
use Rattle.tftp_packet.specs.{OptionValue, Message, canonical}
use Rattle.law_model.specs.Model.{Meaning}
use Rattle.law_end.specs.{CanBeNumbered}

pub oack_short : (m : Meaning) → CanBeNumbered m → map.len m.agreed ≢ 0 → length (canonical (Message.Oack m.agreed)) ≤ 65527
oack_short m (rollover, can) some = (can.oack (λ none. some (ap map.len none ∙ len-empty (slice_cmp nat_cmp) OptionValue))).1

pub short_result : {E : Type 0} (m : Meaning) → CanBeNumbered m → (r : Result (Vec ℕ Global) E) → IfOk r (λ (payload : Vec ℕ Global). payload.items ≡ canonical (Message.Oack m.agreed))
    → IfOk r (λ (payload : Vec ℕ Global). map.len m.agreed ≢ 0 → length payload.items ≤ 65527)
short_result m can (Ok payload) is = λ some. subst (λ l. length l ≤ 65527) (sym is) (oack_short m can some)
short_result m can (Err e) is = tt
