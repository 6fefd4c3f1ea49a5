use Rattle.dw_normal.proofs.{Words.{First, Second}, FaultPlaces.{first_within, lengths_within, second_within}, Reports.{first_fault, second_fault, blamed_only, both_same, both_within, same_fault, compared_only}}
use Rattle.dw_normal.proofs.normal.same.Goals as goal

pub returns-in-Err-clause-only : goal.returns-in-Err-clause-only
returns-in-Err-clause-only c = λ within _. blamed_only c.args.target c.args.first.now First c.in-Err.error c.blamed.result c.are_bytes.ensures c.in-Err.ensures.first c.blamed.ensures within

pub returns-in-Err-clause-refused : goal.returns-in-Err-clause-refused
returns-in-Err-clause-refused c = first_fault c.args.target c.args.first.now c.args.second.now c.in-Err.error c.blamed.result c.in-Err.ensures.first c.blamed.ensures

pub returns-in-Err-check-clause-only : goal.returns-in-Err-check-clause-only
returns-in-Err-check-clause-only c =
    λ _ within. blamed_only c.args.target c.args.second.now Second c.in-Err-check.error c.blamed-in-Err-check.result c.are_bytes-2.ensures c.in-Err-check.ensures.first c.blamed-in-Err-check.ensures within

pub returns-in-Err-check-clause-refused : goal.returns-in-Err-check-clause-refused
returns-in-Err-check-clause-refused c =
    second_fault c.args.target c.args.first.now c.args.second.now c.in-Err-check.error c.blamed-in-Err-check.result (c.in-Ok.ensures).found.1 c.in-Err-check.ensures.first c.blamed-in-Err-check.ensures

pub returns-clause-found : goal.returns-clause-found
returns-clause-found c =
    both_same c.args.target c.args.first.now c.args.second.now c.in-Ok.one c.in-Ok-check.two (c.in-Ok.ensures).found.0 (c.in-Ok-check.ensures).found.0 (c.in-Ok.ensures).found.1 (c.in-Ok-check.ensures).found.1
    c.compared.result c.compared.ensures.found

pub returns-clause-refused : goal.returns-clause-refused
returns-clause-refused c =
    same_fault c.args.target c.args.first.now c.args.second.now c.in-Ok.one c.in-Ok-check.two (c.in-Ok.ensures).found.0 (c.in-Ok-check.ensures).found.0 (c.in-Ok-check.ensures).found.1
    c.compared.result c.compared.ensures.refused

pub returns-clause-only : goal.returns-clause-only
returns-clause-only c =
    compared_only c.args.target c.args.first.now c.args.second.now c.in-Ok.one c.in-Ok-check.two (c.in-Ok.ensures).found.0 (c.in-Ok-check.ensures).found.0 c.are_bytes.ensures c.are_bytes-2.ensures
    c.compared.result c.compared.ensures.refused

pub returns-then-eq-clause-only : goal.returns-then-eq-clause-only
returns-then-eq-clause-only c = λ within _.
    compared_only c.args.target c.args.first.now c.args.first.now c.in-Ok.one c.in-Ok.one (c.in-Ok.ensures).found.0 (c.in-Ok.ensures).found.0 c.are_bytes.ensures c.are_bytes.ensures
    c.same_as_itself.result c.same_as_itself.ensures.refused within within

pub returns-clause-fit : goal.returns-clause-fit
returns-clause-fit c =
    both_within c.args.target c.args.first.now c.args.second.now c.in-Ok.one c.in-Ok-check.two (c.in-Ok.ensures).found.0 (c.in-Ok-check.ensures).found.0 c.compared.result c.compared.ensures.fit

pub returns-in-Err-clause-within : goal.returns-in-Err-clause-within
returns-in-Err-clause-within c =
    first_within c.cited_laws.ensures.within c.args.target c.args.first.now c.args.second.now c.are_bytes.ensures c.in-Err.error c.blamed.result c.in-Err.ensures.first c.blamed.ensures

pub returns-in-Err-check-clause-within : goal.returns-in-Err-check-clause-within
returns-in-Err-check-clause-within c =
    second_within c.cited_laws.ensures.within c.args.target c.args.first.now c.args.second.now c.are_bytes-2.ensures c.in-Err-check.error c.blamed-in-Err-check.result c.in-Err-check.ensures.first
    c.blamed-in-Err-check.ensures

pub returns-clause-within : goal.returns-clause-within
returns-clause-within c =
    lengths_within c.in-Ok.one.target 2147483647 c.args.first.now c.args.second.now c.in-Ok.one.bytes c.in-Ok-check.two.bytes c.compared.result c.compared.ensures.refused

pub returns-then-eq-clause-within : goal.returns-then-eq-clause-within
returns-then-eq-clause-within c =
    lengths_within c.in-Ok.one.target 2147483647 c.args.first.now c.args.second.now c.in-Ok.one.bytes c.in-Ok.one.bytes c.same_as_itself.result c.same_as_itself.ensures.refused
