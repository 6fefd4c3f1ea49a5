-- The instructions of a program by reading, one after another.
use Rattle.std.specs.Prelude.{◌≡◌, Option, Some, None, Result, Ok, Err, Bool, if◌then◌else◌, map}
use Rattle.dw_num.specs.{Input.Input, declared.refusal.Refusal.Refusal}
use Rattle.dw_op.specs.Inner.Walks.{ended, put}
use Rattle.dw_cfa.specs.{Listing.Listing, declared.instr.Factors.Factors, declared.instr.Instr.Instr, Inner.Runs.{Placed, Placing, placed}}

-- instructions without their places
abbrev pub plain_of : Placing → Listing
plain_of p = record { items = map (λ (q : Placed). q.instr) p.items; fault = p.fault }

unfoldable pub listing : Factors → Input → Listing
listing f i = plain_of (placed f i)

-- nothing is left of what has ended
unfoldable pub left_of : Bool → Factors → Input → Listing
left_of has_ended f i = if has_ended then ended None else listing f i

-- what is answered first, and what is left then
abbrev pub Yields : Listing → Option (Result Instr Refusal) → Listing → Type 0
Yields old None new = (old ≡ ended None) × (new ≡ ended None)
Yields old (Some (Ok instr)) new = old ≡ put instr new
Yields old (Some (Err r)) new = (old ≡ ended (Some r)) × (new ≡ ended None)
