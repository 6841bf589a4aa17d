use Rattle.pgs_step.specs.Text.{what_text}
use Rattle.pgs_text.proofs.texts.put_what.Goals as goal

pub returns-in-NotClosed-clause-text : goal.returns-in-NotClosed-clause-text
unfolding what_text
returns-in-NotClosed-clause-text g c = rw c.in-NotClosed.is c.put_said-in-NotClosed.ensures.text

pub returns-in-AcquireLock-clause-text : goal.returns-in-AcquireLock-clause-text
unfolding what_text
returns-in-AcquireLock-clause-text g c = rw c.in-AcquireLock.is c.put_acquire_lock.ensures.text

pub returns-in-ReleaseLock-clause-text : goal.returns-in-ReleaseLock-clause-text
unfolding what_text
returns-in-ReleaseLock-clause-text g c = rw c.in-ReleaseLock.is c.put_lock_counts.ensures.text

pub returns-in-PassLock-clause-text : goal.returns-in-PassLock-clause-text
unfolding what_text
returns-in-PassLock-clause-text g c = rw c.in-PassLock.is c.put_pass_lock.ensures.text

pub returns-in-DescriptorOpened-clause-text : goal.returns-in-DescriptorOpened-clause-text
unfolding what_text
returns-in-DescriptorOpened-clause-text g c = rw c.in-DescriptorOpened.is c.put_counted-in-DescriptorOpened.ensures.text

pub returns-in-DescriptorClosed-clause-text : goal.returns-in-DescriptorClosed-clause-text
unfolding what_text
returns-in-DescriptorClosed-clause-text g c = rw c.in-DescriptorClosed.is c.put_counted-in-DescriptorClosed.ensures.text

pub returns-in-Stat-clause-text : goal.returns-in-Stat-clause-text
unfolding what_text
returns-in-Stat-clause-text g c = rw c.in-Stat.is c.put_stat.ensures.text

pub returns-in-GrandTotal-clause-text : goal.returns-in-GrandTotal-clause-text
unfolding what_text
returns-in-GrandTotal-clause-text g c = rw c.in-GrandTotal.is c.put_grand_total.ensures.text

pub returns-in-AlreadyInTransaction-clause-text : goal.returns-in-AlreadyInTransaction-clause-text
unfolding what_text
returns-in-AlreadyInTransaction-clause-text g c = rw c.in-AlreadyInTransaction.is c.put_word.ensures.text

pub returns-in-NotInTransaction-clause-text : goal.returns-in-NotInTransaction-clause-text
unfolding what_text
returns-in-NotInTransaction-clause-text g c = rw c.in-NotInTransaction.is c.put_word-in-NotInTransaction.ensures.text
