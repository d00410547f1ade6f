-- How a lease ends where the book wanted memory to register records.
use Rattle.std.proofs.Common.{ℕ, List}
use Rattle.valid_table.specs.PathInfos.{PathInfo}
use Rattle.run_states.specs.declared.fault.BookFault.TheVariants.{NoMemory, NoView, ForeignLease, NotLawful}
use Rattle.build_outcome.specs.declared.job.Job.{Job}
use Rattle.build_outcome.specs.declared.reason.Reason.TheVariants.{OutOfMemory}
use Rattle.store_run.specs.private.Sharing.{IsNoting, IsLeaseRegistering, IsWanting, Share}
use Rattle.store_run.specs.declared.job_verdict.LeaseEnd.{LeaseEnd}
use Rattle.store_run.specs.declared.job_verdict.LeaseEnd.TheVariants.{Registered, Failed, Stopped}

-- a failure for want of memory is then how a lease ends with those records
pub wanting_registers : (before after : Share) (job : Job) (number : ℕ) (infos : List PathInfo)
    (end : LeaseEnd) → IsWanting before job number infos
    → IsNoting before after job number OutOfMemory end
    → IsLeaseRegistering before after job number infos end
wanting_registers before after job number infos Registered wanting noting = absurd noting
wanting_registers before after job number infos (Failed why) wanting noting =
    (noting.0, wanting, noting.1)
wanting_registers before after job number infos (Stopped ForeignLease) wanting noting = noting
wanting_registers before after job number infos (Stopped NoMemory) wanting noting = absurd noting
wanting_registers before after job number infos (Stopped NoView) wanting noting = absurd noting
wanting_registers before after job number infos (Stopped NotLawful) wanting noting = absurd noting
