use Rattle.std.proofs.Common.{◌≡◌, List, ◌++◌, length, option_map}
use Rattle.net_pcap.specs.{OptionParts, SpellsOptions, first_value}
use Rattle.net_pcap.proofs.options.find_option.Given as goal

-- the options before what is left, the first value among them, and that what is left are options if all are
abbrev pub invariant-options : goal.invariant-options
invariant-options l =
    (done : List OptionParts)
    × ((os : List OptionParts) → SpellsOptions l.order l.rest os → SpellsOptions l.order l.options (done ++ os))
    × ((os : List OptionParts) → SpellsOptions l.order l.options os → (more : List OptionParts) × SpellsOptions l.order l.rest more)
    × (option_map (λ v. v.now) l.found ≡ first_value l.code l.size done)

abbrev pub decreases-options : goal.decreases-options
decreases-options l = length l.rest
