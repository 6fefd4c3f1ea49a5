use Rattle.dw_section.proofs.{Words.{entry_of, inl, inr, map, refl}, Items.one_cut, FirstFault.{cut_stage, headers_stage}, Lent.CheckFirst.{check_stage, fault_or_accepted}}
use Rattle.dw_section.proofs.laws.fault_laws.Goals as goal

pub returns : goal.returns
returns c = record {
  cut = one_cut;
  entries_fault = λ target s. (cut_stage target s).one;
  entries_apart = λ target s r es fault p. (cut_stage target s).apart r p.parts fault p.cut;
  entries = λ target s b. elim ((cut_stage target s).some b) [ inl found ↦ inl (map entry_of found.0, record { parts = found.0; cut = found.1; are = refl }) | inr fault ↦ inr fault ];
  headers_fault = λ target s. (headers_stage target s).one;
  headers_apart = λ target s. (headers_stage target s).apart;
  headers = λ target s. (headers_stage target s).some;
  check_fault = λ target s r q b. (check_stage target s b).one r q;
  check_apart = λ target s r b. fault_or_accepted target s b r;
  check = λ target s b. elim ((check_stage target s b).some b) [ inl found ↦ inl (found.0, found.1.0, found.1.1) | inr fault ↦ inr fault ];
}
