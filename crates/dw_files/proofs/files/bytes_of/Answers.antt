use Rattle.std.specs.Prelude.{IfSome, option_map}
use Rattle.std.proofs.Common.{◌≡◌, ◌∙◌, ◌++◌, ℕ, List, [], Option, None, Some, ap, arith, take}
use lib.Seq.{take-take}
use Rattle.dw_files.proofs.files.bytes_of.Goals as goal

-- the first bytes of those that are left, where these are known
front_of : (n : ℕ) (left : Option (List ℕ)) (read cut : List ℕ) → IfSome (option_map (take n) left) (λ xs. read ≡ [] ++ xs) → cut ≡ take n read → IfSome left (λ xs. cut ≡ take n xs)
front_of n None read cut h is = tt
front_of n (Some xs) read cut h is = is ∙ ap (take n) h ∙ take-take n n xs (omega arith)

pub returns-clause-bytes : goal.returns-clause-bytes
returns-clause-bytes g c =
    let known = rw (c.take-reader.ensures.limit, c.take-reader.ensures.inner, c.in_ok-bytes.ensures.items) at c.in_ok-read_to_end.ensures.bytes in
    front_of 2147483648 (g.R.Read.remaining c.args.reader) c.read_to_end.new.buf.items c.truncate.new.self.items known c.truncate.ensures.items
