-- The blocks that are held, joined, are a wire whose blocks they are.
use Rattle.std.proofs.Common.{◌≡◌, ℕ, zero, suc, ◌+◌, ◌-◌, ◌*◌, ◌/◌, ◌<◌, ◌≤◌, List, length, Some, None, inl, inr, refl, sym, ap, ◌∙◌, arith}
use Rattle.std.proofs.Math.Nat.{zero-mul, suc-mul}
use Rattle.std.proofs.lemmas.Nat.{div-mul-add}
use Rattle.std.proofs.lemmas.List.{length-append}
use Rattle.std.proofs.lemmas.Bool.{cases_lt}
use Rattle.std.specs.FinMap as map
use Rattle.tftp_packet.specs.Hosts.{Datagram}
use Rattle.law_model.specs.Model.{block, block_count}
use Rattle.law_model.specs.Rules.{IsJoined}
use Rattle.law_model.specs.{Terms}
use Rattle.tftp_ends.specs.Blocks.{Held, IsHeldFront, IsJoin}
use Rattle.tftp_ends.specs.{AreBlocks, IsHeld, IsEnd, AreWholeBelow}
use Rattle.law_model.proofs.RulesLemmas.Joined.{block_added, block_kept}

-- whole blocks joined have this size
join_size : (b : ℕ) (held : Held) (n : ℕ) (wire : List ℕ) → AreWholeBelow b held (n + 1) → IsJoin held n wire → length wire ≡ n * b
join_size b held zero wire whole is = ap length is ∙ sym (zero-mul b)
join_size b held (suc n) wire whole (before, bytes, earlier, there, all) =
    let short = join_size b held n before (λ k other is below. whole k other is (omega arith)) earlier in
    let one = whole (n + 1) bytes there (omega arith) in
    let more : suc n * b ≡ n * b + b = suc-mul n b in
    ap length all ∙ length-append before bytes ∙ omega arith

-- and each of them is a block of the wire, with one more behind them that is no longer
join_blocks : (b : ℕ) (held : Held) (n : ℕ) (wire : List ℕ) → AreWholeBelow b held n → ((bytes : List ℕ) → map.get held n ≡ Some bytes → length bytes ≤ b) → IsJoin held n wire
    → (k : ℕ) → 1 ≤ k → k ≤ n → map.get held k ≡ Some (block b wire k)
join_blocks b held zero wire whole fits is k low high = absurd (omega arith)
join_blocks b held (suc n) wire whole fits (before, bytes, earlier, there, all) k low high =
    let at : suc n ≡ n + 1 = omega arith in
    let size : length before ≡ (suc n - 1) * b = join_size b held n before (λ m other is below. whole m other is (omega arith)) earlier ∙ ap (λ i. i * b) (omega arith) in
    let last = fits bytes (ap (map.get held) at ∙ there) in
    elim (cases_lt k (suc n)) [
      | inl below ↦
          join_blocks b held n before (λ m other is less. whole m other is (omega arith)) (λ other is. let one = whole n other is (omega arith) in omega arith) earlier k low (omega arith)
          ∙ ap Some (sym (block_kept b k (suc n) before bytes low below size) ∙ ap (λ w. block b w k) (sym all))
      | inr rest ↦
          let same : k ≡ suc n = omega arith in
          ap (map.get held) (same ∙ at) ∙ there ∙ ap Some (sym (block_added b (suc n) before bytes size last) ∙ ap (λ w. block b w (suc n)) (sym all) ∙ ap (block b wire) (sym same))
    ]

-- The blocks up to the last, joined, have as many blocks.
join_count : (b : ℕ) (held : Held) (last : ℕ) (wire : List ℕ) → 1 ≤ last → AreWholeBelow b held last → ((bytes : List ℕ) → map.get held last ≡ Some bytes → length bytes < b) → IsJoin held last wire
    → block_count b wire ≡ last
join_count b held zero wire some whole short is = absurd (omega arith)
join_count b held (suc n) wire some whole short (before, bytes, earlier, there, all) =
    let at : suc n ≡ n + 1 = omega arith in
    let size : length before ≡ n * b = join_size b held n before (λ m other is below. whole m other is (omega arith)) earlier in
    ap (λ w. length w / b + 1) all ∙ ap (λ m. m / b + 1) (length-append before bytes ∙ ap (λ m. m + length bytes) size)
    ∙ ap (λ m. m + 1) (div-mul-add n b (length bytes) (short bytes (ap (map.get held) at ∙ there))) ∙ omega arith

module _ (t : Terms) (held : Held) (passed : List Datagram) (blocks : AreBlocks passed held) (last : ℕ) (end_there : IsEnd t held last) (some : 1 ≤ last) where
  pub joined_held : (wire : List ℕ) → IsJoin held last wire → IsJoined t.blksize passed last wire
  joined_held wire is = record {
    count = join_count t.blksize held last wire some end_there.whole end_there.short is;
    blocks = λ k low high. (blocks k (block t.blksize wire k)).1
        (join_blocks t.blksize held last wire end_there.whole (λ bytes there. let less = end_there.short bytes there in omega arith) is k low high);
  }

  -- where all of them are held, the last is the front
  pub last_is_front : ((k : ℕ) → 1 ≤ k → k ≤ last → IsHeld held k) → IsHeldFront held last
  last_is_front all = record { below = all; next = nothing (map.get held (last + 1)) refl } where
    nothing : (o : _) → map.get held (last + 1) ≡ o → map.get held (last + 1) ≡ None
    nothing None is = is
    nothing (Some bytes) is = let most = end_there.most (last + 1) (bytes, is) in absurd (omega arith)
