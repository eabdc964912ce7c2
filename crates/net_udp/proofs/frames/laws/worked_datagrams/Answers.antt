use Rattle.std.proofs.Common.{◌++◌, [], ◌∷◌, inl, refl, arith, drop, None}
use Rattle.net_udp.specs.Frames.{ipv6_fragment, udp_bytes}
use Rattle.net_udp.proofs.FramesLemmas.Datagrams.{hidden}
use Rattle.net_udp.proofs.frames.laws.worked_datagrams.Goals as goal

pub returns-clause-plain : goal.returns-clause-plain
returns-clause-plain c = (udp_bytes ++ 255 ∷ 255 ∷ [], ((0, inl (refl, (λ e. omega arith), refl)), refl), omega arith, (omega arith, omega arith), (λ e. omega arith), (λ e. omega arith), refl)

pub returns-clause-behind : goal.returns-clause-behind
returns-clause-behind c = (udp_bytes, ((1, ((omega arith, omega arith, inl refl), inl (refl, (λ e. omega arith), refl))), refl), omega arith, (omega arith, omega arith), (λ e. omega arith), (λ e. omega arith), refl)

pub returns-clause-port : goal.returns-clause-port
returns-clause-port c = (0 ∷ 0 ∷ drop 2 udp_bytes, ((0, inl (refl, (λ e. omega arith), refl)), refl), omega arith, (omega arith, omega arith), inl refl)

pub returns-clause-tunnel : goal.returns-clause-tunnel
returns-clause-tunnel c =
    hidden 60 (41 ∷ 0 ∷ 4 ∷ 1 ∷ 4 ∷ 1 ∷ 0 ∷ 0 ∷ ipv6_fragment) (record { protocol = 41; fragment = None; content = ipv6_fragment }) (1, ((omega arith, omega arith, inl refl), inl (refl, (λ e. omega arith), refl))) refl
