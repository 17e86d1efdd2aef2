-- What each kind of frame needs, as the one record that the step asks for.
use Rattle.std.proofs.Common.{◌≡◌, ℕ, ◌+◌, ◌<◌, ◌≤◌, false, List, length, rules, Option, None}
use Rattle.syntax.specs.declared.frame.Frame.{Frame}
use Rattle.syntax.specs.declared.stages.Unfinished.{Unfinished}
use Rattle.levels.specs.Store.{standing, stands}
use Rattle.walk.specs.declared.machine.Declaration.{Declaration}
use Rattle.walk.specs.Judge.{Numbers, arity}
use Rattle.walk.specs.Machines.{Ready, Awaits}

module _ (cap i : ℕ) (f : Frame) (os : List ℕ) (ls : List Numbers) (u : List Unfinished) (p : Option Declaration) where
  pub ready_head : f.kind ≡ 0x01 → length ls < 33 → p ≡ None → Ready cap i f os ls u p
  ready_head k l idle = search rules

  pub ready_param : f.kind ≡ 0x02 → 0 < length ls → standing ls < cap → stands ls f.name ≡ false → p ≡ None → Ready cap i f os ls u p
  ready_param k some room new idle = search rules

  pub ready_end : f.kind ≡ 0x03 → 0 < length ls → standing ls < cap → p ≡ None → Ready cap i f os ls u p
  ready_end k some room idle = search rules

  pub ready_do : f.kind ≡ 0x10 → 0 < length ls → standing ls < cap → 0 < length os → p ≡ None → Ready cap i f os ls u p
  ready_do k some room one idle = search rules

  pub ready_decl : f.kind ≡ 0x11 → 0 < length ls → standing ls < cap → p ≡ None → Ready cap i f os ls u p
  ready_decl k some room idle = search rules

  pub ready_name : f.kind ≡ 0x12 → 0 < length ls → standing ls < cap → Awaits i p → Ready cap i f os ls u p
  ready_name k some room wait = search rules

  pub ready_init : f.kind ≡ 0x13 → 0 < length ls → standing ls < cap → 0 < length os → p ≡ None → Ready cap i f os ls u p
  ready_init k some room one idle = search rules

  pub ready_retv : f.kind ≡ 0x14 → 0 < length ls → standing ls < cap → p ≡ None → Ready cap i f os ls u p
  ready_retv k some room idle = search rules

  pub ready_ret : f.kind ≡ 0x15 → 0 < length ls → standing ls < cap → 0 < length os → p ≡ None → Ready cap i f os ls u p
  ready_ret k some room one idle = search rules

  pub ready_open : f.kind ≡ 0x16 → 0 < length ls → standing ls < cap → length ls < 33 → length u < 32 → p ≡ None → Ready cap i f os ls u p
  ready_open k some room l v idle = search rules

  pub ready_close : f.kind ≡ 0x17 → 0 < length ls → standing ls < cap → p ≡ None → Ready cap i f os ls u p
  ready_close k some room idle = search rules

  pub ready_begin : 0x17 < f.kind → f.kind ≤ 0x19 → 0 < length ls → standing ls < cap → 0 < length os → length u < 32 → p ≡ None → Ready cap i f os ls u p
  ready_begin k k' some room one v idle = search rules

  pub ready_expr : 0x20 ≤ f.kind → 0 < length ls → standing ls < cap → arity f ≤ length os → length os < 256 + arity f → p ≡ None → Ready cap i f os ls u p
  ready_expr k some room n m idle = search rules
