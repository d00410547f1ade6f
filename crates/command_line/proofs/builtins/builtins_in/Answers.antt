use Rattle.std.proofs.Common.{◌∙◌, ap, inl, inr, subst, sym}
use Rattle.command_line.proofs.BuiltinWords.{names_of, not_all, read_all, read_more}
use Rattle.command_line.specs.Builtins.{AreApart}
use Rattle.command_line.proofs.builtins.builtins_in.Goals as goal

pub returns-in-None-clause-err : goal.returns-in-None-clause-err
returns-in-None-clause-err c =
    inr (inl (
      c.in_ok-without_program-in-None.ensures,
      not_all c.args.words.now c.loop-word.word-index _ c.loop-word-test.true c.in-None.ensures,
    ))

pub loop-word-preserved : goal.loop-word-preserved
loop-word-preserved c =
    rw c.in_ok-push-in-Some.ensures.items
    (read_more c.args.words.now c.loop-word.word-index _ c.loop-word.builtins.items
    c.in-Some.builtin c.loop-word-test.true c.loop-word.invariant c.in-Some.ensures.0
    c.in-Some.ensures.1 c.in-Some.ensures.2)

pub returns-in-Some-twin_in-clause-err : goal.returns-in-Some-twin_in-clause-err
returns-in-Some-twin_in-clause-err c =
    let read = read_all c.args.words.now c.loop-word.word-index c.loop-word.builtins.items
    c.loop-word-test.false c.loop-word.invariant in
    let same = ap names_of c.deref.ensures.value ∙ read.names in
    inr (inr (
      c.in_ok-given_twice-in-Some-twin_in.ensures,
      read.have_programs,
      λ apart. c.in-Some-twin_in.ensures (subst AreApart (sym same) apart),
    ))

pub returns-clause-ok : goal.returns-clause-ok
returns-clause-ok c =
    let read = read_all c.args.words.now c.loop-word.word-index c.loop-word.builtins.items
    c.loop-word-test.false c.loop-word.invariant in
    let same = ap names_of c.deref.ensures.value ∙ read.names in
    record {
      have_programs = read.have_programs;
      apart = subst AreApart same c.in-None-twin_in.ensures;
      names = read.names;
      programs = read.programs;
    }
