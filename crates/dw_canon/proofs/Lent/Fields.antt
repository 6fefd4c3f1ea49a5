-- The cut of a section that is written, and the fields of each entry.
use Rattle.dw_canon.proofs.Words.{◌≡◌, ℕ, ◌+◌, ◌<◌, ◌≤◌, ◌^◌, true, List, [], ◌∷◌, ◌++◌, length, map, refl, sym, ap, subst, arith, inl, inr, negsuc, ◌==◌, None, AllByRecursion, rules, AllZip, lt-ltb, length-append, append-nil, Order}
use Rattle.dw_canon.proofs.Words.{Little, Big, Size, Four, Eight, Dwarf32, Target, fixed_bytes, Fixed, shortest_uleb, address_limit, byte_count, length-fixed, shortest_uleb-spells, Instr, IsItem, is_cie, Piece, pieces, Cut, Has, Headers}
use Rattle.dw_canon.proofs.Words.{cie_places, Written, cie, fde, cie_id, cie_spelling, fields_of, contents, item_of, entry_bytes, section_bytes, fde_field_bytes, cie_field_bytes, span_of, head_of, heads_at, cies_at, StandsAt, Fits}
use Rattle.dw_section.specs.Fields.{is_among, FieldsSpell, unless}
use Rattle.dw_section.specs.Inner.Least.{least_cie}
use Rattle.dw_num.specs.declared.refusal.Code.TheVariants.{AddressSize}
use Rattle.dw_section.specs.declared.entry.Kind.TheVariants as kind
use Rattle.dw_section.specs.Fields as table

-- ---- lengths

pub entry_length : (target : Target) (w : Written) → length (entry_bytes target w) ≡ 4 + length (contents target w)
entry_length target w = search rules

section_more : (target : Target) (w : Written) (ws : List Written) → length (section_bytes target (w ∷ ws)) ≡ length (entry_bytes target w) + length (section_bytes target ws)
section_more target w ws = length-append (entry_bytes target w) (section_bytes target ws)

-- ---- places of CIEs

pub stands_below : (target : Target) (at : ℕ) (ws : List Written) (place register : ℕ) (initial : List Instr) → StandsAt target at ws place register initial → place < at + length (section_bytes target ws)
stands_below target at [] place register initial h = absurd h
stands_below target at (cie r instrs program ∷ ws) place register initial (inl h) = search rules
stands_below target at (cie r instrs program ∷ ws) place register initial (inr h) = search (rules, section_more, stands_below target (at + length (entry_bytes target (cie r instrs program))) ws place register initial h)
stands_below target at (fde c b n instrs program ∷ ws) place register initial h = search (rules, section_more, stands_below target (at + length (entry_bytes target (fde c b n instrs program))) ws place register initial h)

pub stands_among : (target : Target) (at : ℕ) (ws : List Written) (place register : ℕ) (initial : List Instr) → StandsAt target at ws place register initial → is_among place (cies_at target at ws) ≡ true
stands_among target at [] place register initial h = absurd h
stands_among target at (cie r instrs program ∷ ws) place register initial (inl h) = search rules
stands_among target at (cie r instrs program ∷ ws) place register initial (inr h) = search (rules, stands_among target (at + length (entry_bytes target (cie r instrs program))) ws place register initial h)
stands_among target at (fde c b n instrs program ∷ ws) place register initial h = stands_among target (at + length (entry_bytes target (fde c b n instrs program))) ws place register initial h

-- ---- the kind of an entry

abbrev pub piece_at : Target → ℕ → Written → Piece
piece_at target at w = record { at = at; form = Dwarf32; kind = is_cie Dwarf32 (contents target w); contents = record { at = at + length (fixed_bytes target.order 4 (length (contents target w))); bytes = contents target w } }

cie_kind : (target : Target) (register : ℕ) (instrs : List Instr) (program : List ℕ) → is_cie Dwarf32 (contents target (cie register instrs program)) ≡ kind.Cie
cie_kind target register instrs program = search rules

fde_kind : (target : Target) (cie_at begin range : ℕ) (instrs : List Instr) (program : List ℕ) → cie_at < 0x80000000 → is_cie Dwarf32 (contents target (fde cie_at begin range instrs program)) ≡ kind.Fde
fde_kind target cie_at begin range instrs program lt = search rules

-- ---- fields

limit_is : (size : Size) → address_limit size ≡ 256 ^ byte_count size
limit_is Four = refl
limit_is Eight = refl

byte_spelled : (order : Order) (n : ℕ) → n < 256 → Fixed order 1 n (n ∷ [])
byte_spelled Little n lt = record { bytes = ap (λ (x : ℕ). x ∷ []) (omega (arith, lt)); fits = omega (arith, lt) }
byte_spelled Big n lt = record { bytes = ap (λ (x : ℕ). x ∷ []) (omega (arith, lt)); fits = omega (arith, lt) }

count_low : (size : Size) → byte_count size < 256
count_low Four = omega arith
count_low Eight = omega arith

count_same : (size : Size) → unless (byte_count size == byte_count size) AddressSize ≡ None
count_same Four = refl
count_same Eight = refl

-- what is written of a CIE spells the fields of one
cie_spelled : (target : Target) (register : ℕ) → register < 65536 → FieldsSpell target (table.cie_fields target.size Dwarf32) (least_cie register) (cie_field_bytes target register)
cie_spelled target register lt =
    let last = shortest_uleb register in
    let factors = (1 ∷ []) ++ ((127 ∷ []) ++ last) in
    let behind_sizes : FieldsSpell target (table.factors 4) (least_cie register) factors = (
      1,
      refl,
      record {
        front = 1 ∷ [];
        back = (127 ∷ []) ++ last;
        first = record { shape = omega arith; value = refl; fits = omega arith };
        second = (
          negsuc 0,
          refl,
          record {
            front = 127 ∷ [];
            back = last;
            first = record { shape = omega arith; value = refl; fits = omega arith };
            second = (register, rw (lt-ltb register 65536 lt) refl, record { front = last; back = []; first = shortest_uleb-spells register (omega arith); second = (refl, refl); whole = sym (append-nil last) });
            whole = refl;
          },
        );
        whole = refl;
      },
    ) in
    let sizes = (byte_count target.size ∷ 0 ∷ []) ++ factors in (
      0xffffffff,
      refl,
      record {
        front = cie_id target;
        back = cie_spelling target register;
        first = record { bytes = refl; fits = omega arith };
        second = (
          4,
          refl,
          record {
            front = 4 ∷ [];
            back = (0 ∷ []) ++ sizes;
            first = byte_spelled target.order 4 (omega arith);
            second = record {
              front = 0 ∷ [];
              back = sizes;
              first = refl;
              second = (
                byte_count target.size,
                count_same target.size,
                record {
                  front = byte_count target.size ∷ [];
                  back = 0 ∷ factors;
                  first = byte_spelled target.order (byte_count target.size) (count_low target.size);
                  second = (0, refl, record { front = 0 ∷ []; back = factors; first = byte_spelled target.order 0 (omega arith); second = behind_sizes; whole = refl });
                  whole = refl;
                },
              );
              whole = refl;
            };
            whole = refl;
          },
        );
        whole = refl;
      },
    )

-- and what is written of an FDE, those of one
fde_spelled : (target : Target) (places : List ℕ) (cie_at begin range : ℕ) → cie_at < 256 ^ 4 → is_among cie_at places ≡ true → begin < address_limit target.size → range < address_limit target.size → begin + range ≤ address_limit target.size
    → FieldsSpell target (table.fde_fields target.size places Dwarf32) (record { cie_at = cie_at; begin = begin; range = range }) (fde_field_bytes target cie_at begin range)
fde_spelled target places cie_at begin range low among begin_low range_low inside = search rules

place_behind : (target : Target) (at n : ℕ) (w : Written) → at + (4 + n) ≡ (piece_at target at w).contents.at + n
place_behind target at n w = omega (arith, length-fixed target.order 4 (length (contents target w)))

module _ (target : Target) (all : List Written) (small : length (section_bytes target all) ≤ 2147483647) where
  pub points_low : (place register : ℕ) (initial : List Instr) → StandsAt target 0 all place register initial → place < 0x80000000
  points_low place register initial h = omega (arith, stands_below target 0 all place register initial h)

  pub has_written : (at : ℕ) (w : Written) → Fits target all w → Has target (cies_at target 0 all) (piece_at target at w) (head_of target at w)
  has_written at (cie register instrs program) fits =
      let w = cie register instrs program in
      inl (
        least_cie register,
        span_of target at w,
        (cie_kind target register instrs program, record { spelling = cie_field_bytes target register; spells = cie_spelled target register fits; whole = refl; place = place_behind target at (length (fields_of target w)) w }),
        refl,
      )
  has_written at (fde cie_at begin range instrs program) fits =
      let w = fde cie_at begin range instrs program in
      let stands = fits.4 in
      let low = points_low cie_at stands.0 stands.1 stands.2 in
      inr (
        record { cie_at = cie_at; begin = begin; range = range },
        span_of target at w,
        (
          fde_kind target cie_at begin range instrs program low,
          record {
            spelling = fde_field_bytes target cie_at begin range;
            spells = fde_spelled target (cies_at target 0 all) cie_at begin range (omega arith) (stands_among target 0 all cie_at stands.0 stands.1 stands.2) fits.2 fits.1 fits.3;
            whole = refl;
            place = place_behind target at (length (fields_of target w)) w;
          },
        ),
        refl,
      )

  each_has : (at : ℕ) (ws : List Written) → AllByRecursion (Fits target all) ws → AllZip (Has target (cies_at target 0 all)) (pieces target.order at (map (item_of target) ws)) (heads_at target at ws)
  each_has at [] h = tt
  each_has at (w ∷ ws) h = (has_written at w h.0, each_has (at + length (entry_bytes target w)) ws h.1)

  same_places : (at : ℕ) (ws : List Written) → AllByRecursion (Fits target all) ws → cie_places (pieces target.order at (map (item_of target) ws)) ≡ cies_at target at ws
  same_places at [] h = refl
  same_places at (cie register instrs program ∷ ws) h = search (rules, cie_kind, same_places (at + length (entry_bytes target (cie register instrs program))) ws h.1)
  same_places at (fde cie_at begin range instrs program ∷ ws) h = search (rules, fde_kind, points_low, same_places (at + length (entry_bytes target (fde cie_at begin range instrs program))) ws h.1)

-- ---- the cut

each_item : (target : Target) (ws : List Written) → length (section_bytes target ws) ≤ 2147483647 → AllByRecursion IsItem (map (item_of target) ws)
each_item target [] small = tt
each_item target (w ∷ ws) small = search (rules, section_more target w ws, each_item target ws (omega (arith, section_more target w ws)))

-- what is written is cut into the entries that were written, without a gap
pub written_cut : (target : Target) (ws : List Written) → length (section_bytes target ws) ≤ 2147483647 → Cut target.order (section_bytes target ws) (map (item_of target) ws)
written_cut target ws small = record { each = each_item target ws small; whole = refl }

-- and has their headers
pub written_headers : (target : Target) (ws : List Written) → length (section_bytes target ws) ≤ 2147483647 → AllByRecursion (Fits target ws) ws → Headers target (section_bytes target ws) (heads_at target 0 ws)
written_headers target ws small fits = record {
  entries = pieces target.order 0 (map (item_of target) ws);
  cut = record { small = small; items = map (item_of target) ws; cut = written_cut target ws small; are = refl };
  each = subst (λ (l : List ℕ). AllZip (Has target l) (pieces target.order 0 (map (item_of target) ws)) (heads_at target 0 ws)) (sym (same_places target ws small 0 ws fits)) (each_has target ws small 0 ws fits);
}
