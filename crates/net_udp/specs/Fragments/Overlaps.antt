-- Which fragments of IPv6 overlap: of their packet nothing is put together, and exact repetitions alone are let pass (RFC 8200,
-- section 4.5). In IPv4 fragments may overlap (RFC 791, section 3.2; RFC 815).
use Rattle.std.specs.Prelude.{◌≡◌, ◌≢◌, ◌⊎◌, ◌<◌, false, List, [], ◌∷◌}
use Rattle.net_udp.specs.declared.fragments.extent.Extent.{Extent}
use Rattle.net_udp.specs.Fragments.Whole.{Among, Content, Give, Part, end_of}

-- where a part stands, and the protocol that its fragment names
abbrev pub extent_of : Part → Extent
extent_of p = record { place = p.place; end = end_of p; protocol = p.protocol }

-- Each begins before the other ends, and neither repeats the other. Where two of one extent bring other bytes no content has
-- both.
abbrev pub Overlap : Extent → Extent → Type 0
Overlap e f = (e.place < f.end) × (f.place < e.end) × (e ≢ f)

-- one of the extents is so
abbrev pub OneOf : (Extent → Type 0) → List Extent → Type 0
OneOf P [] = ⊥
OneOf P (e ∷ es) = P e ⊎ OneOf P es

-- the part may not overlap, and does with one of the parts
abbrev pub OverlapsOne : Part → List Part → Type 0
OverlapsOne p parts = (p.may_overlap ≡ false) × Among (λ q. Overlap (extent_of p) (extent_of q)) parts

-- two of the parts overlap, and may not
abbrev pub TwoOverlap : List Part → Type 0
TwoOverlap [] = ⊥
TwoOverlap (p ∷ parts) = OverlapsOne p parts ⊎ TwoOverlap parts

-- the content is put together of the parts: they give it, and none overlap that may not
abbrev pub PutTogether : List Part → Content → Type 0
PutTogether parts whole = Give parts whole × (TwoOverlap parts → ⊥)
