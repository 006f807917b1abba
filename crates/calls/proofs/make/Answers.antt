-- `calls::make` meets its contract: each arm by the contract of the audited call that it makes, which the entry check lets in.
use Rattle.model.specs.declared.Call.TheVariants.{Setup, Open, Close, Allocate, Copy, Clear, Load, Store, Put, Get, LoadGlobal, StoreGlobal, Start, ScanStack, ScanGlobals, MarkStep, Finish, SweepStep}
use Rattle.model.proofs.Checks.{lengths_passed, entry_passed}
use Rattle.call_setup.proofs.Emptied.{set_up}
use Rattle.calls.proofs.Entered.{let_in}
use Rattle.calls.proofs.make.Goals as goal

pub setup-requires : goal.setup-requires
setup-requires c = (lengths_passed _ (let_in _ Setup c.in-Setup.is c.requires)).roots

pub open_stack-requires : goal.open_stack-requires
open_stack-requires c = (entry_passed _ (let_in _ (Open _) c.in-Open.is c.requires)).sized.roots

pub close_stack-requires : goal.close_stack-requires
close_stack-requires c = (entry_passed _ (let_in _ (Close _) c.in-Close.is c.requires)).sized.roots

pub allocate-requires : goal.allocate-requires
allocate-requires c = entry_passed _ (let_in _ (Allocate _ _ _ _) c.in-Allocate.is c.requires)

pub copy-requires : goal.copy-requires
copy-requires c = (entry_passed _ (let_in _ (Copy _ _ _) c.in-Copy.is c.requires)).sized.roots

pub clear-requires : goal.clear-requires
clear-requires c = (entry_passed _ (let_in _ (Clear _ _) c.in-Clear.is c.requires)).sized.roots

pub load-requires : goal.load-requires
load-requires c = entry_passed _ (let_in _ (Load _ _ _ _) c.in-Load.is c.requires)

pub store-requires : goal.store-requires
store-requires c = entry_passed _ (let_in _ (Store _ _ _ _) c.in-Store.is c.requires)

pub put-requires : goal.put-requires
put-requires c = entry_passed _ (let_in _ (Put _ _ _ _) c.in-Put.is c.requires)

pub get-requires : goal.get-requires
get-requires c = entry_passed _ (let_in _ (Get _ _ _) c.in-Get.is c.requires)

pub load_global-requires : goal.load_global-requires
load_global-requires c = (entry_passed _ (let_in _ (LoadGlobal _ _ _) c.in-LoadGlobal.is c.requires)).sized.roots

pub store_global-requires : goal.store_global-requires
store_global-requires c = (_, entry_passed _ (let_in _ (StoreGlobal _ _ _) c.in-StoreGlobal.is c.requires))

pub start-requires : goal.start-requires
start-requires c = (entry_passed _ (let_in _ Start c.in-Start.is c.requires)).sized.roots

pub scan_stack-requires : goal.scan_stack-requires
scan_stack-requires c = (_, entry_passed _ (let_in _ (ScanStack _) c.in-ScanStack.is c.requires))

pub scan_globals-requires : goal.scan_globals-requires
scan_globals-requires c = (_, entry_passed _ (let_in _ ScanGlobals c.in-ScanGlobals.is c.requires))

pub mark_step-requires : goal.mark_step-requires
mark_step-requires c = entry_passed _ (let_in _ MarkStep c.in-MarkStep.is c.requires)

pub finish-requires : goal.finish-requires
finish-requires c = (_, entry_passed _ (let_in _ Finish c.in-Finish.is c.requires))

pub sweep_step-requires : goal.sweep_step-requires
sweep_step-requires c = (_, entry_passed _ (let_in _ SweepStep c.in-SweepStep.is c.requires))

pub returns-in-Setup : goal.returns-in-Setup
returns-in-Setup c = rw c.in-Setup.is (set_up _ (lengths_passed _ (let_in _ Setup c.in-Setup.is c.requires)) c.setup.ensures)
