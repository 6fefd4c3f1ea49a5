use Rattle.dw_command.proofs.{Words.{inl, err_from_is_err_and, output_of, Adds}, Endings.{not_written, written}}
use Rattle.dw_show.proofs.Lent.Endings.{lent, printed}
use Rattle.dw_command.proofs.forms.run_normal.Goals as goal

pub returns-in_err-map_err : goal.returns-in_err-map_err
returns-in_err-map_err g c =
    let p = err_from_is_err_and c.from_residual-in_err-map_err.result c.from_residual-in_err-map_err.ensures.1 in
    let s = c.deref.result.now in
    let loads = lent (g.L.Load.gives c.args.files.now) c.args.writing.now.path.now _ s c.deref.ensures.value c.in_ok-bytes.ensures.loads in
    let ends = not_written c.args.target c.args.writing.now.cap s (output_of g.W.Write.contents c.args.out.now) (output_of g.W.Write.contents c.normalise_to.new.sink) c.normalise_to.result c.in_err-map_err.field-0.0 c.in_err-map_err.ensures.cases c.normalise_to.ensures.writes in
    rw (p.1, p.2) (inl (s, loads, ends))

pub returns : goal.returns
returns g c =
    let s = c.deref.result.now in
    let loads = lent (g.L.Load.gives c.args.files.now) c.args.writing.now.path.now _ s c.deref.ensures.value c.in_ok-bytes.ensures.loads in
    let n = written c.args.target c.args.writing.now.cap s (output_of g.W.Write.contents c.args.out.now) (output_of g.W.Write.contents c.normalise_to.new.sink) c.normalise_to.result c.in_ok-map_err.field-0 c.in_ok-map_err.ensures.cases c.normalise_to.ensures.writes in
    let adds : Adds g.W.Write.contents c.args.out.now c.normalise_to.new.sink n.0 = record { works = λ _. c.requires.works; put = λ _. n.3 } in
    inl (s, loads, inl (n.0, (n.1, n.2), printed g.W.Write.contents _ _ _ _ c.finish.result c.requires.works adds c.finish.ensures.ends))
