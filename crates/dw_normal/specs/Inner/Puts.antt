-- Bytes that go out one after another, into a sink or to be counted alone.
use Rattle.std.specs.{Prelude.{◌≡◌, ℕ, ◌+◌, ◌++◌, ◌<◌, ◌≤◌, Bool, false, List, [], length, Option, Result, Ok, Err}, Io.KnownBytes.Appends}
use Rattle.dw_num.specs.{Fixed.fixed_bytes, declared.target.{Form.TheVariants.Dwarf32, Order.Order}}
use Rattle.dw_section.specs.Cut.{entry, item_bytes}
use Rattle.dw_normal.specs.declared.output.{Output.Output, Stop.Stop, Stop.TheVariants.{Full, Failed, Memory}}

-- ---- an entry that is built

-- it is these bytes by now, of which a beginning is forgotten only where they are counted alone
pub record Holds (out : Output) (bytes : List ℕ) : Type 0 where
  pub lost : List ℕ
  pub whole : bytes ≡ lost ++ out.bytes.items
  pub gone : out.gone ≡ length lost
  pub within : out.gone ≤ out.room
  pub kept : out.counts ≡ false → lost ≡ []

-- it was made these bytes, or there is no room for them, or memory ran out
abbrev pub Fills : List ℕ → Result Unit Stop → Output → Output → Type 0
Fills bytes (Ok x) old new = Holds new bytes
Fills bytes (Err Full) old new = old.room < length bytes
Fills bytes (Err Failed) old new = ⊥
Fills bytes (Err Memory) old new = Unit {0}

-- nothing went out
abbrev pub SameRoom : Output → Output → Type 0
SameRoom old new = (new.room ≡ old.room) × (new.counts ≡ old.counts)

-- no entry is forgotten
abbrev pub IsKept : Output → Type 0
IsKept out = (out.counts ≡ false) × (out.room ≤ 2147483647)

-- ---- bytes that go out

-- how much room is left, and a sink's count of failures and what it tells
pub record Place : Type 0 where
  pub room : ℕ
  pub failed : ℕ
  pub told : Option (List ℕ)

-- all of these bytes were taken
abbrev pub Sends : Bool → List ℕ → Place → Place → Type 0
Sends counts bytes old new = (new.failed ≡ old.failed) × (new.room + length bytes ≡ old.room) × (counts ≡ false → Appends old.told new.told bytes)

-- a beginning of them was
pub record Takes (counts : Bool) (bytes : List ℕ) (old new : Place) : Type 0 where
  pub front : List ℕ
  pub rest : List ℕ
  pub whole : bytes ≡ front ++ rest
  pub room : new.room + length front ≡ old.room
  pub took : counts ≡ false → Appends old.told new.told front

-- all of them were taken, or there was no room for all, or a beginning, up to where the sink failed or memory ran out; where they are
-- counted alone no sink fails
abbrev pub Puts : Bool → List ℕ → Result Unit Stop → Place → Place → Type 0
Puts counts bytes (Ok x) old new = Sends counts bytes old new
Puts counts bytes (Err Full) old new = old.room < length bytes
Puts counts bytes (Err Failed) old new = (counts ≡ false) × (old.failed < new.failed) × Takes counts bytes old new
Puts counts bytes (Err Memory) old new = (new.failed ≡ old.failed) × Takes counts bytes old new

-- into a sink, of which this is the count of failures and what it tells
abbrev pub sink_at : {S : Type 0} (failures : S → ℕ) (taken : S → Option (List ℕ)) → ℕ → S → Place
sink_at failures taken room sink = record { room = room; failed = failures sink; told = taken sink }

abbrev pub Sinks : {S : Type 0} (failures : S → ℕ) (taken : S → Option (List ℕ)) → List ℕ → Result Unit Stop → Output → Output → S → S → Type 0
Sinks failures taken bytes result out out' old new = Puts out.counts bytes result (sink_at failures taken out.room old) (sink_at failures taken out'.room new)

-- the entry that is built, with its length
abbrev pub SinksHeld : {S : Type 0} (failures : S → ℕ) (taken : S → Option (List ℕ)) → Order → Result Unit Stop → Output → Output → S → S → Type 0
SinksHeld failures taken order result out out' old new =
    (contents : List ℕ) → Holds out (fixed_bytes order 4 0 ++ contents) → Sinks failures taken (item_bytes order (entry Dwarf32 contents)) result out out' old new
