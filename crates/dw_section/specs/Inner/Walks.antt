-- Where walks were led to.
use Rattle.std.specs.{Prelude.{◌≡◌, ℕ, List, Option, Some, None, IfSome}, BTreeMap.{BTreeMap, get}, Ordering.nat_cmp}
use Rattle.dw_num.specs.{Input.AreBytes, Span.input_of, declared.target.Target.Target}
use Rattle.dw_cfa.specs.RowWalk.{Led, Walking}
use Rattle.dw_section.specs.{Among.IsAmong, Headers.{CieHead, Head, cie}, Programs.factors_of, declared.walks.Walks.Walks}

-- what a walk is led to by a CIE
abbrev pub led_by : Target → CieHead → Led
led_by target c = record { program = input_of target c.program; factors = factors_of c }

-- a walk was led to the CIE among headers that stands at a place, if to any
abbrev pub LedTo : Target → List Head → Option ℕ → Led → Type 0
LedTo target hs None led = Unit {0}
LedTo target hs (Some place) led = (c : CieHead) × IsAmong (cie c) hs × (c.at ≡ place) × (led ≡ led_by target c) × AreBytes c.program.bytes

-- so was each walk that was put away
abbrev pub AreAway : Target → List Head → BTreeMap ℕ Walking → Type 0
AreAway target hs away = (place : ℕ) → IfSome (get nat_cmp away place) (λ walk. LedTo target hs (Some place) walk.led)

-- so were all
abbrev pub AreLed : Target → List Head → Walks → Type 0
AreLed target hs w = LedTo target hs w.cie_at w.walk.led × AreAway target hs w.away
