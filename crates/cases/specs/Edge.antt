-- The wrong replays at the host edge: each at the image `00` with all registers 0, which halts in cycle 5.
use Rattle.std.specs.Prelude.{ℕ, suc, List, [], ◌∷◌, refl, get_or, drop, replicate}
use Rattle.machine.specs.Table.{unknown_byte}
use Rattle.block.specs.Block.{words_in, with_words}
use Rattle.edge.specs.Edge.{Edge, edge}
use Rattle.cases.specs.Promises.{host_edge}
use Rattle.cases.specs.Computing.{computing}
use Rattle.cases.specs.Wrong.{FallsFoul, refused, differs}

abbrev halting : List ℕ × List ℕ × List ℕ × ℕ × ℕ × ℕ
halting = (0 ∷ [], replicate 120 0, replicate 40 0, 0, 4, 5)

-- one that refuses all, by any number
pub edge_refuses : (n : ℕ) → FallsFoul host_edge (λ x. edge (suc n) x.0 x.1 x.2) halting
unfolding computing
edge_refuses n = differs (λ r. refused r.answer) 1 0 refl

-- one that always answers HLT, whatever else another one, f, answers: at a code without functions its status word is 2, where it ought to be INS, 4
abbrev with_hlt : Edge → List ℕ → Edge
with_hlt o result = edge o.answer o.memory o.registers (with_words (2 ∷ drop 1 (words_in 5 o.result 0)) result 0)

pub edge_halts : (f : host_edge.Given → Edge) → FallsFoul host_edge (λ x. with_hlt (f x) x.2) (unknown_byte ∷ [], replicate 120 0, replicate 40 0, 0, 4, 5)
unfolding computing
edge_halts f = differs (λ r. get_or r.result 0 0) 2 4 refl

-- one that leaves all as it was: the status word stays 0, where it ought to be HLT, 2
pub edge_idles : FallsFoul host_edge (λ x. edge 0 x.0 x.1 x.2) halting
unfolding computing
edge_idles = differs (λ r. get_or r.result 0 0) 0 2 refl

-- one that makes up cycles: its fifth word is 6, where it ought to be 5
pub edge_makes_up : FallsFoul host_edge (λ x. edge 0 x.0 x.1 (with_words (2 ∷ 0 ∷ 4 ∷ 1 ∷ 6 ∷ []) x.2 0)) halting
unfolding computing
edge_makes_up = differs (λ r. get_or r.result 32 0) 6 5 refl
