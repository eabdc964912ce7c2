-- A fault that stays, whatever follows.
use Rattle.std.proofs.Common.{◌≡◌, ◌≢◌, ℕ, List, ◌∷◌, ◌++◌, refl, ap, ◌∙◌, append_assoc}
use Rattle.tftp_capture.specs.{TextFault, BadHeader, BadEnd, BadService, LineTooLong, BadLine, BadPort, BadHost, BadHex, PayloadTooLong, TotalWrong, Truncated, TrailingText, TextTooLong, HasFault, Numbered}

more_after : (text more read rest : List ℕ) (byte : ℕ) → text ≡ read ++ byte ∷ rest → text ++ more ≡ read ++ byte ∷ (rest ++ more)
more_after text more read rest byte e = ap (λ l. l ++ more) e ∙ append_assoc read (byte ∷ rest) more

pub stays : (text more : List ℕ) (datagrams : List Numbered) (line : ℕ) (fault : TextFault) → fault ≢ Truncated → HasFault text datagrams line fault → HasFault (text ++ more) datagrams line fault
stays text more datagrams line BadHeader other h = (h.0, h.1 ++ more, h.2, more_after text more h.0 h.1 h.2 h.3, h.4)
stays text more datagrams line BadEnd other h = (h.0, h.1 ++ more, h.2, more_after text more h.0 h.1 h.2 h.3, h.4)
stays text more datagrams line BadService other h = (h.0, h.1 ++ more, h.2, more_after text more h.0 h.1 h.2 h.3, h.4)
stays text more datagrams line LineTooLong other h = (h.0, h.1 ++ more, h.2, more_after text more h.0 h.1 h.2 h.3, h.4)
stays text more datagrams line BadLine other h = (h.0, h.1 ++ more, h.2, more_after text more h.0 h.1 h.2 h.3, h.4)
stays text more datagrams line BadPort other h = (h.0, h.1 ++ more, h.2, more_after text more h.0 h.1 h.2 h.3, h.4)
stays text more datagrams line BadHost other h = (h.0, h.1 ++ more, h.2, more_after text more h.0 h.1 h.2 h.3, h.4)
stays text more datagrams line BadHex other h = (h.0, h.1 ++ more, h.2, more_after text more h.0 h.1 h.2 h.3, h.4)
stays text more datagrams line PayloadTooLong other h = (h.0, h.1 ++ more, h.2, more_after text more h.0 h.1 h.2 h.3, h.4)
stays text more datagrams line TotalWrong other h = (h.0, h.1 ++ more, h.2, more_after text more h.0 h.1 h.2 h.3, h.4)
stays text more datagrams line TrailingText other h = (h.0, h.1 ++ more, h.2, more_after text more h.0 h.1 h.2 h.3, h.4)
stays text more datagrams line TextTooLong other h = (h.0, h.1 ++ more, h.2, more_after text more h.0 h.1 h.2 h.3, h.4)
stays text more datagrams line Truncated other h = absurd (other refl)
