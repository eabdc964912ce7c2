-- The worked transfers are runs, and their ends' views whole, by computation.
use Rattle.std.proofs.Common.{◌≡◌, ℕ, Bool, true, false, Some, None, [], ◌∷◌, codes, refl, sym, ap, ◌∙◌}
use Rattle.std.proofs.lemmas.Bool.{true≢false}
use Rattle.std.specs.FinMap as map
use Rattle.std.specs.Ordering.{nat_cmp}
use Rattle.std.specs.Cmp.Lexicographic.{slice_cmp, nat_list_cmp_total}
use Rattle.tftp_packet.specs.{OptionMap, OptionValue, Num, no_options, Client, Server}
use Rattle.law_model.specs.Model.{Meaning, NothingAgreed, SomethingAgreed, number_or, blksize_of, windowsize_of, block_count, IsRun, IsView, IsComplete, two_bytes, two_bytes_steps, two_bytes_view, two_bytes_server_view, two_bytes_written, two_bytes_written_steps, two_bytes_written_view, eight_a_block, ten_bytes, ten_bytes_steps, ten_bytes_view, eight_by_four, six_blocks, six_blocks_steps, six_blocks_view, six_blocks_server_view, block_repeated, block_repeated_steps, block_repeated_view, window_repeated, window_repeated_steps, window_repeated_view}
use Rattle.law_model.proofs.ModelLemmas.Defaults.{default_blksize, default_windowsize}
use Rattle.law_model.proofs.ModelLemmas.Computed.{Plan, IsPlan, run_is, complete_is}

-- ---- without options, in one block

abbrev pub one_block_plan : Plan
one_block_plan = record { agreed = false; windowsize = 1; blocks = 1 }

one_block_of : (m : Meaning) → NothingAgreed m → block_count 512 m.file ≡ 1 → block_count (blksize_of m) m.file ≡ 1
one_block_of m none one = ap (λ b. block_count b m.file) (default_blksize m none) ∙ one

pub one_block : block_count (blksize_of two_bytes) two_bytes.file ≡ 1
one_block = one_block_of two_bytes refl refl

pub two_is_plan : IsPlan two_bytes two_bytes.file one_block_plan
two_is_plan = record { something = λ e. absurd (true≢false (sym e)); nothing = λ _. refl; windowsize = default_windowsize two_bytes refl; blocks = one_block }

pub two_bytes_run : IsRun two_bytes two_bytes.file two_bytes_steps
two_bytes_run = run_is two_bytes two_bytes.file one_block_plan two_bytes_steps two_is_plan refl

pub two_bytes_is_view : IsView two_bytes two_bytes.file Client two_bytes_view
two_bytes_is_view = (two_bytes_steps, two_bytes_run, refl)

pub two_bytes_complete : IsComplete two_bytes two_bytes.file Client two_bytes_view
two_bytes_complete = complete_is two_bytes two_bytes.file one_block_plan Client two_bytes_view two_is_plan refl

pub two_bytes_is_server_view : IsView two_bytes two_bytes.file Server two_bytes_server_view
two_bytes_is_server_view = (two_bytes_steps, two_bytes_run, refl)

pub two_bytes_complete_at_server : IsComplete two_bytes two_bytes.file Server two_bytes_server_view
two_bytes_complete_at_server = complete_is two_bytes two_bytes.file one_block_plan Server two_bytes_server_view two_is_plan refl

pub written_one_block : block_count (blksize_of two_bytes_written) two_bytes_written.file ≡ 1
written_one_block = one_block_of two_bytes_written refl refl

pub written_is_plan : IsPlan two_bytes_written two_bytes_written.file one_block_plan
written_is_plan = record { something = λ e. absurd (true≢false (sym e)); nothing = λ _. refl; windowsize = default_windowsize two_bytes_written refl; blocks = written_one_block }

pub written_is_view : IsView two_bytes_written two_bytes_written.file Client two_bytes_written_view
written_is_view = (two_bytes_written_steps, run_is two_bytes_written two_bytes_written.file one_block_plan two_bytes_written_steps written_is_plan refl, refl)

pub written_complete : IsComplete two_bytes_written two_bytes_written.file Client two_bytes_written_view
written_complete = complete_is two_bytes_written two_bytes_written.file one_block_plan Client two_bytes_written_view written_is_plan refl

-- ---- what the maps of options answer

pub eight_for_blksize : map.get eight_a_block (codes "blksize") ≡ Some (Num 8)
eight_for_blksize = map.get-from_entries nat_list_cmp_total ((codes "blksize", Num 8) ∷ []) (codes "blksize")

none_for_window : map.get eight_a_block (codes "windowsize") ≡ None
none_for_window = map.get-from_entries nat_list_cmp_total ((codes "blksize", Num 8) ∷ []) (codes "windowsize")

pub eight_of_both : map.get eight_by_four (codes "blksize") ≡ Some (Num 8)
eight_of_both = map.get-from_entries nat_list_cmp_total ((codes "blksize", Num 8) ∷ (codes "windowsize", Num 4) ∷ []) (codes "blksize")

pub four_of_both : map.get eight_by_four (codes "windowsize") ≡ Some (Num 4)
four_of_both = map.get-from_entries nat_list_cmp_total ((codes "blksize", Num 8) ∷ (codes "windowsize", Num 4) ∷ []) (codes "windowsize")

-- a map that has a block size is not empty
pub has_some : (options : OptionMap) → map.get options (codes "blksize") ≡ Some (Num 8) → options ≡ no_options → ⊥
has_some options has e =
    let none = map.get-empty {X = OptionValue} (slice_cmp nat_cmp) (codes "blksize") in
    let both : Some (Num 8) ≡ None = sym has ∙ ap (λ o. map.get o (codes "blksize")) e ∙ none in
    absurd (cc)

-- ---- in blocks of eight, alone and in a window of four

abbrev pub eights_plan : ℕ → ℕ → Plan
eights_plan window blocks = record { agreed = true; windowsize = window; blocks = blocks }

module _ (m : Meaning) (window blocks : ℕ) (has : map.get m.agreed (codes "blksize") ≡ Some (Num 8)) (windowed : windowsize_of m ≡ window) (counted : block_count 8 m.file ≡ blocks) where
  size_of : blksize_of m ≡ 8
  size_of = ap (number_or 512) has

  count_of : block_count (blksize_of m) m.file ≡ blocks
  count_of = ap (λ b. block_count b m.file) size_of ∙ counted

  plan_of : IsPlan m m.file (eights_plan window blocks)
  plan_of = record { something = λ _. has_some m.agreed has; nothing = λ e. absurd (true≢false e); windowsize = windowed; blocks = count_of }

pub something_agreed : SomethingAgreed ten_bytes
something_agreed = has_some eight_a_block eight_for_blksize

pub blocks_of_eight : blksize_of ten_bytes ≡ 8
blocks_of_eight = ap (number_or 512) eight_for_blksize

pub one_at_a_time : windowsize_of ten_bytes ≡ 1
one_at_a_time = ap (number_or 1) none_for_window

pub two_blocks : block_count (blksize_of ten_bytes) ten_bytes.file ≡ 2
two_blocks = count_of ten_bytes 1 2 eight_for_blksize one_at_a_time refl

pub ten_is_plan : IsPlan ten_bytes ten_bytes.file (eights_plan 1 2)
ten_is_plan = plan_of ten_bytes 1 2 eight_for_blksize one_at_a_time refl

pub ten_bytes_is_view : IsView ten_bytes ten_bytes.file Client ten_bytes_view
ten_bytes_is_view = (ten_bytes_steps, run_is ten_bytes ten_bytes.file (eights_plan 1 2) ten_bytes_steps ten_is_plan refl, refl)

pub ten_bytes_complete : IsComplete ten_bytes ten_bytes.file Client ten_bytes_view
ten_bytes_complete = complete_is ten_bytes ten_bytes.file (eights_plan 1 2) Client ten_bytes_view ten_is_plan refl

pub six_size : blksize_of six_blocks ≡ 8
six_size = ap (number_or 512) eight_of_both

pub six_count : block_count (blksize_of six_blocks) six_blocks.file ≡ 6
six_count = count_of six_blocks 4 6 eight_of_both (ap (number_or 1) four_of_both) refl

six_is_plan : IsPlan six_blocks six_blocks.file (eights_plan 4 6)
six_is_plan = plan_of six_blocks 4 6 eight_of_both (ap (number_or 1) four_of_both) refl

pub six_run : IsRun six_blocks six_blocks.file six_blocks_steps
six_run = run_is six_blocks six_blocks.file (eights_plan 4 6) six_blocks_steps six_is_plan refl

pub six_view : IsView six_blocks six_blocks.file Client six_blocks_view
six_view = (six_blocks_steps, six_run, refl)

pub six_complete : IsComplete six_blocks six_blocks.file Client six_blocks_view
six_complete = complete_is six_blocks six_blocks.file (eights_plan 4 6) Client six_blocks_view six_is_plan refl

pub six_server_view : IsView six_blocks six_blocks.file Server six_blocks_server_view
six_server_view = (six_blocks_steps, six_run, refl)

pub six_server_complete : IsComplete six_blocks six_blocks.file Server six_blocks_server_view
six_server_complete = complete_is six_blocks six_blocks.file (eights_plan 4 6) Server six_blocks_server_view six_is_plan refl

pub repeated_size : blksize_of block_repeated ≡ 8
repeated_size = ap (number_or 512) eight_for_blksize

pub repeated_count : block_count (blksize_of block_repeated) block_repeated.file ≡ 2
repeated_count = count_of block_repeated 1 2 eight_for_blksize (ap (number_or 1) none_for_window) refl

repeated_is_plan : IsPlan block_repeated block_repeated.file (eights_plan 1 2)
repeated_is_plan = plan_of block_repeated 1 2 eight_for_blksize (ap (number_or 1) none_for_window) refl

pub repeated_view : IsView block_repeated block_repeated.file Client block_repeated_view
repeated_view = (block_repeated_steps, run_is block_repeated block_repeated.file (eights_plan 1 2) block_repeated_steps repeated_is_plan refl, refl)

pub repeated_complete : IsComplete block_repeated block_repeated.file Client block_repeated_view
repeated_complete = complete_is block_repeated block_repeated.file (eights_plan 1 2) Client block_repeated_view repeated_is_plan refl

pub window_size : blksize_of window_repeated ≡ 8
window_size = ap (number_or 512) eight_of_both

pub window_count : block_count (blksize_of window_repeated) window_repeated.file ≡ 2
window_count = count_of window_repeated 4 2 eight_of_both (ap (number_or 1) four_of_both) refl

pub window_is_plan : IsPlan window_repeated window_repeated.file (eights_plan 4 2)
window_is_plan = plan_of window_repeated 4 2 eight_of_both (ap (number_or 1) four_of_both) refl

pub window_view : IsView window_repeated window_repeated.file Client window_repeated_view
window_view = (window_repeated_steps, run_is window_repeated window_repeated.file (eights_plan 4 2) window_repeated_steps window_is_plan refl, refl)

pub window_complete : IsComplete window_repeated window_repeated.file Client window_repeated_view
window_complete = complete_is window_repeated window_repeated.file (eights_plan 4 2) Client window_repeated_view window_is_plan refl
