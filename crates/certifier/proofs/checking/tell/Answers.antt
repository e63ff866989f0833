use Rattle.std.proofs.Common.{refl, sym, subst}
use Rattle.certifier.proofs.Telling.{none_put}
use Rattle.certifier.specs.Judging.{TellsEnd}
use Rattle.certifier.specs.declared.checking.CheckEnd.TheVariants as ends
use Rattle.certifier.specs.declared.judged.Judged.{Judged}
use Rattle.certifier.specs.declared.judged.Judged.TheVariants as judged
use Rattle.certifier.proofs.checking.tell.Goals as goal

pub returns-in-ReadFault-clause-tells : goal.returns-in-ReadFault-clause-tells
returns-in-ReadFault-clause-tells g c =
    let written = g.K.Sink.written c.args.sink.now in
    subst (λ (j : Judged). TellsEnd j ends.ReadFault written written) (sym c.in-ReadFault.is)
    (none_put judged.ReadFault ends.ReadFault written (λ verdict taken v. (v.0, v.1, refl)))

pub returns-in-TooLong-clause-tells : goal.returns-in-TooLong-clause-tells
returns-in-TooLong-clause-tells g c =
    let written = g.K.Sink.written c.args.sink.now in
    subst (λ (j : Judged). TellsEnd j ends.TooLong written written) (sym c.in-TooLong.is)
    (none_put judged.TooLong ends.TooLong written (λ verdict taken v. (v.0, v.1, refl)))

pub returns-in-NoMemory-clause-tells : goal.returns-in-NoMemory-clause-tells
returns-in-NoMemory-clause-tells g c =
    let written = g.K.Sink.written c.args.sink.now in
    subst (λ (j : Judged). TellsEnd j ends.NoMemory written written) (sym c.in-NoMemory.is)
    (none_put judged.NoMemory ends.NoMemory written (λ verdict taken v. refl))
