-- An FDE behind its begin.
use Rattle.std.specs.{Prelude.{◌≡◌, ◌≤◌, List, length, Some}, List.AllByRecursion}
use Rattle.dw_num.specs.declared.target.Target.{Target}
use Rattle.dw_canon.specs.Members.{Member, fde_of}
use Rattle.dw_canon.specs.Inner.{Canon.initial_of, Difference.difference, Fits.InstrFits}
use Rattle.dw_normal.specs.{declared.begun.Begun.Begun, Inner.Apart.StandsApart, Inner.ChangeWalk.{Stand, shown_row}, Inner.Groups.row_of}
use Rattle.dw_normal.specs.Inner.{Known.AreSame, Lengths.cies_bytes, Listed.{AreInitial, ArePlaces}, Places.place_in}

-- its row at its begin and its later changes can be spelled behind the initial row, and the registers are listed that are not the same
-- in both, or none are
pub record IsReady (t : Target) (b : Begun) : Type 0 where
  pub apart : StandsApart b.apart b.shared.now (shown_row b.changes)
  pub first : AllByRecursion (InstrFits t) (difference b.shared.now b.shared.now (shown_row b.changes))
  pub stand : Stand t b.shared.now b.fde.begin b.changes

-- only its changes were gone on with
abbrev pub KeepsFde : Begun → Begun → Type 0
KeepsFde old new =
    (new.ready ≡ old.ready) × (new.places ≡ old.places) × (new.fde ≡ old.fde) × (new.shared ≡ old.shared) × (new.cie_at ≡ old.cie_at) × (new.apart ≡ old.apart)

-- it is this FDE among those
pub record IsBegun (ms : List Member) (m : Member) (b : Begun) : Type 0 where
  pub fde : b.fde ≡ fde_of m
  pub shared : b.shared.now ≡ initial_of ms m.register
  pub first : shown_row b.changes ≡ m.first
  pub later : b.changes.to_come ≡ m.later

-- a walk over the FDEs of its table: its initial row and its place are those of the CIE of its return address register, and what is
-- known of CIEs holds of the rows
pub record Walks (b : Begun) : Type 0 where
  pub rows : AreInitial b.ready.now.table b.ready.now.rows.entries
  pub places : ArePlaces b.ready.now.table.target b.ready.now.rows.entries b.places.now.entries
  pub low : length (cies_bytes b.ready.now.table.target b.ready.now.rows.entries) ≤ 2147483647
  pub section : b.changes.section ≡ b.ready.now.table
  pub shared : row_of b.ready.now.rows.entries b.fde.return_register ≡ Some b.shared.now
  pub stands : place_in b.places.now.entries b.fde.return_register ≡ Some b.cie_at
  pub known : AreSame b.ready.now.table b.ready.now.rows.entries b.apart.known.cies
