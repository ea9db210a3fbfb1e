use Rattle.lines.specs.Words.{words, key}
use Rattle.lines.proofs.WordLaws.{in_bytes, lookup_key, arm, default_arm}
use Rattle.lines.proofs.words.word_of.Goals as goal

pub returns-in-366 : goal.returns-in-366
unfolding lookup_key words key
returns-in-366 c = arm c.args.w.now (in_bytes c.args.w.now (λ i. (c.shared_slice_known-1.given i).fits)) c.key.ensures c.in-366.is

pub returns-in-358 : goal.returns-in-358
unfolding lookup_key words key
returns-in-358 c = arm c.args.w.now (in_bytes c.args.w.now (λ i. (c.shared_slice_known-1.given i).fits)) c.key.ensures c.in-358.is

pub returns-in-96361 : goal.returns-in-96361
unfolding lookup_key words key
returns-in-96361 c = arm c.args.w.now (in_bytes c.args.w.now (λ i. (c.shared_slice_known-1.given i).fits)) c.key.ensures c.in-96361.is

pub returns-in-91753 : goal.returns-in-91753
unfolding lookup_key words key
returns-in-91753 c = arm c.args.w.now (in_bytes c.args.w.now (λ i. (c.shared_slice_known-1.given i).fits)) c.key.ensures c.in-91753.is

pub returns-in-23882849 : goal.returns-in-23882849
unfolding lookup_key words key
returns-in-23882849 c = arm c.args.w.now (in_bytes c.args.w.now (λ i. (c.shared_slice_known-1.given i).fits)) c.key.ensures c.in-23882849.is

pub returns-in-23553390 : goal.returns-in-23553390
unfolding lookup_key words key
returns-in-23553390 c = arm c.args.w.now (in_bytes c.args.w.now (λ i. (c.shared_slice_known-1.given i).fits)) c.key.ensures c.in-23553390.is

pub returns-in-24407918 : goal.returns-in-24407918
unfolding lookup_key words key
returns-in-24407918 c = arm c.args.w.now (in_bytes c.args.w.now (λ i. (c.shared_slice_known-1.given i).fits)) c.key.ensures c.in-24407918.is

pub returns-in-1315995348067 : goal.returns-in-1315995348067
unfolding lookup_key words key
returns-in-1315995348067 c = arm c.args.w.now (in_bytes c.args.w.now (λ i. (c.shared_slice_known-1.given i).fits)) c.key.ensures c.in-1315995348067.is

pub returns-in-23356513 : goal.returns-in-23356513
unfolding lookup_key words key
returns-in-23356513 c = arm c.args.w.now (in_bytes c.args.w.now (λ i. (c.shared_slice_known-1.given i).fits)) c.key.ensures c.in-23356513.is

pub returns-in-23229811 : goal.returns-in-23229811
unfolding lookup_key words key
returns-in-23229811 c = arm c.args.w.now (in_bytes c.args.w.now (λ i. (c.shared_slice_known-1.given i).fits)) c.key.ensures c.in-23229811.is

pub returns-in-23885165 : goal.returns-in-23885165
unfolding lookup_key words key
returns-in-23885165 c = arm c.args.w.now (in_bytes c.args.w.now (λ i. (c.shared_slice_known-1.given i).fits)) c.key.ensures c.in-23885165.is

pub returns-in-94565 : goal.returns-in-94565
unfolding lookup_key words key
returns-in-94565 c = arm c.args.w.now (in_bytes c.args.w.now (λ i. (c.shared_slice_known-1.given i).fits)) c.key.ensures c.in-94565.is

pub returns-in-91502 : goal.returns-in-91502
unfolding lookup_key words key
returns-in-91502 c = arm c.args.w.now (in_bytes c.args.w.now (λ i. (c.shared_slice_known-1.given i).fits)) c.key.ensures c.in-91502.is

pub returns-in-95340 : goal.returns-in-95340
unfolding lookup_key words key
returns-in-95340 c = arm c.args.w.now (in_bytes c.args.w.now (λ i. (c.shared_slice_known-1.given i).fits)) c.key.ensures c.in-95340.is

pub returns-in-91500 : goal.returns-in-91500
unfolding lookup_key words key
returns-in-91500 c = arm c.args.w.now (in_bytes c.args.w.now (λ i. (c.shared_slice_known-1.given i).fits)) c.key.ensures c.in-91500.is

pub returns-in-95335 : goal.returns-in-95335
unfolding lookup_key words key
returns-in-95335 c = arm c.args.w.now (in_bytes c.args.w.now (λ i. (c.shared_slice_known-1.given i).fits)) c.key.ensures c.in-95335.is

pub returns-in-91495 : goal.returns-in-91495
unfolding lookup_key words key
returns-in-91495 c = arm c.args.w.now (in_bytes c.args.w.now (λ i. (c.shared_slice_known-1.given i).fits)) c.key.ensures c.in-91495.is

pub returns-in-23359073 : goal.returns-in-23359073
unfolding lookup_key words key
returns-in-23359073 c = arm c.args.w.now (in_bytes c.args.w.now (λ i. (c.shared_slice_known-1.given i).fits)) c.key.ensures c.in-23359073.is

pub returns-in-94831 : goal.returns-in-94831
unfolding lookup_key words key
returns-in-94831 c = arm c.args.w.now (in_bytes c.args.w.now (λ i. (c.shared_slice_known-1.given i).fits)) c.key.ensures c.in-94831.is

pub returns-in-23881843 : goal.returns-in-23881843
unfolding lookup_key words key
returns-in-23881843 c = arm c.args.w.now (in_bytes c.args.w.now (λ i. (c.shared_slice_known-1.given i).fits)) c.key.ensures c.in-23881843.is

pub returns-in-24275059 : goal.returns-in-24275059
unfolding lookup_key words key
returns-in-24275059 c = arm c.args.w.now (in_bytes c.args.w.now (λ i. (c.shared_slice_known-1.given i).fits)) c.key.ensures c.in-24275059.is

pub returns-in-5979922786 : goal.returns-in-5979922786
unfolding lookup_key words key
returns-in-5979922786 c = arm c.args.w.now (in_bytes c.args.w.now (λ i. (c.shared_slice_known-1.given i).fits)) c.key.ensures c.in-5979922786.is

pub returns-in-24276834 : goal.returns-in-24276834
unfolding lookup_key words key
returns-in-24276834 c = arm c.args.w.now (in_bytes c.args.w.now (λ i. (c.shared_slice_known-1.given i).fits)) c.key.ensures c.in-24276834.is

pub returns-in-6214875234 : goal.returns-in-6214875234
unfolding lookup_key words key
returns-in-6214875234 c = arm c.args.w.now (in_bytes c.args.w.now (λ i. (c.shared_slice_known-1.given i).fits)) c.key.ensures c.in-6214875234.is

pub returns-in-5997163124 : goal.returns-in-5997163124
unfolding lookup_key words key
returns-in-5997163124 c = arm c.args.w.now (in_bytes c.args.w.now (λ i. (c.shared_slice_known-1.given i).fits)) c.key.ensures c.in-5997163124.is

pub returns-in-1535239807334 : goal.returns-in-1535239807334
unfolding lookup_key words key
returns-in-1535239807334 c = arm c.args.w.now (in_bytes c.args.w.now (λ i. (c.shared_slice_known-1.given i).fits)) c.key.ensures c.in-1535239807334.is

pub returns-in-24406370 : goal.returns-in-24406370
unfolding lookup_key words key
returns-in-24406370 c = arm c.args.w.now (in_bytes c.args.w.now (λ i. (c.shared_slice_known-1.given i).fits)) c.key.ensures c.in-24406370.is

pub returns-in-393030064500847 : goal.returns-in-393030064500847
unfolding lookup_key words key
returns-in-393030064500847 c = arm c.args.w.now (in_bytes c.args.w.now (λ i. (c.shared_slice_known-1.given i).fits)) c.key.ensures c.in-393030064500847.is

pub returns-in-6231976290 : goal.returns-in-6231976290
unfolding lookup_key words key
returns-in-6231976290 c = arm c.args.w.now (in_bytes c.args.w.now (λ i. (c.shared_slice_known-1.given i).fits)) c.key.ensures c.in-6231976290.is

pub returns-in-391861783456115 : goal.returns-in-391861783456115
unfolding lookup_key words key
returns-in-391861783456115 c = arm c.args.w.now (in_bytes c.args.w.now (λ i. (c.shared_slice_known-1.given i).fits)) c.key.ensures c.in-391861783456115.is

pub returns-in-95852 : goal.returns-in-95852
unfolding lookup_key words key
returns-in-95852 c = arm c.args.w.now (in_bytes c.args.w.now (λ i. (c.shared_slice_known-1.given i).fits)) c.key.ensures c.in-95852.is

pub returns-in-24405363 : goal.returns-in-24405363
unfolding lookup_key words key
returns-in-24405363 c = arm c.args.w.now (in_bytes c.args.w.now (λ i. (c.shared_slice_known-1.given i).fits)) c.key.ensures c.in-24405363.is

pub returns-in-104827942737438052 : goal.returns-in-104827942737438052
unfolding lookup_key words key
returns-in-104827942737438052 c = arm c.args.w.now (in_bytes c.args.w.now (λ i. (c.shared_slice_known-1.given i).fits)) c.key.ensures c.in-104827942737438052.is

pub returns-in-6181318508 : goal.returns-in-6181318508
unfolding lookup_key words key
returns-in-6181318508 c = arm c.args.w.now (in_bytes c.args.w.now (λ i. (c.shared_slice_known-1.given i).fits)) c.key.ensures c.in-6181318508.is

pub returns-in-6147106935 : goal.returns-in-6147106935
unfolding lookup_key words key
returns-in-6147106935 c = arm c.args.w.now (in_bytes c.args.w.now (λ i. (c.shared_slice_known-1.given i).fits)) c.key.ensures c.in-6147106935.is

pub returns-in-6147106932 : goal.returns-in-6147106932
unfolding lookup_key words key
returns-in-6147106932 c = arm c.args.w.now (in_bytes c.args.w.now (λ i. (c.shared_slice_known-1.given i).fits)) c.key.ensures c.in-6147106932.is

pub returns-in-5997030501 : goal.returns-in-5997030501
unfolding lookup_key words key
returns-in-5997030501 c = arm c.args.w.now (in_bytes c.args.w.now (λ i. (c.shared_slice_known-1.given i).fits)) c.key.ensures c.in-5997030501.is

pub returns-in-6147698531 : goal.returns-in-6147698531
unfolding lookup_key words key
returns-in-6147698531 c = arm c.args.w.now (in_bytes c.args.w.now (λ i. (c.shared_slice_known-1.given i).fits)) c.key.ensures c.in-6147698531.is

pub returns-in-301 : goal.returns-in-301
unfolding lookup_key words key
returns-in-301 c = arm c.args.w.now (in_bytes c.args.w.now (λ i. (c.shared_slice_known-1.given i).fits)) c.key.ensures c.in-301.is

pub returns-in-6248623984 : goal.returns-in-6248623984
unfolding lookup_key words key
returns-in-6248623984 c = arm c.args.w.now (in_bytes c.args.w.now (λ i. (c.shared_slice_known-1.given i).fits)) c.key.ensures c.in-6248623984.is

pub returns-in-5996964215 : goal.returns-in-5996964215
unfolding lookup_key words key
returns-in-5996964215 c = arm c.args.w.now (in_bytes c.args.w.now (λ i. (c.shared_slice_known-1.given i).fits)) c.key.ensures c.in-5996964215.is

pub returns-in-23553394 : goal.returns-in-23553394
unfolding lookup_key words key
returns-in-23553394 c = arm c.args.w.now (in_bytes c.args.w.now (λ i. (c.shared_slice_known-1.given i).fits)) c.key.ensures c.in-23553394.is

pub returns-in-23946605 : goal.returns-in-23946605
unfolding lookup_key words key
returns-in-23946605 c = arm c.args.w.now (in_bytes c.args.w.now (λ i. (c.shared_slice_known-1.given i).fits)) c.key.ensures c.in-23946605.is

pub returns-in-1599664451427 : goal.returns-in-1599664451427
unfolding lookup_key words key
returns-in-1599664451427 c = arm c.args.w.now (in_bytes c.args.w.now (λ i. (c.shared_slice_known-1.given i).fits)) c.key.ensures c.in-1599664451427.is

pub returns-in-1535289946724 : goal.returns-in-1535289946724
unfolding lookup_key words key
returns-in-1535289946724 c = arm c.args.w.now (in_bytes c.args.w.now (λ i. (c.shared_slice_known-1.given i).fits)) c.key.ensures c.in-1535289946724.is

pub returns-in-93807 : goal.returns-in-93807
unfolding lookup_key words key
returns-in-93807 c = arm c.args.w.now (in_bytes c.args.w.now (λ i. (c.shared_slice_known-1.given i).fits)) c.key.ensures c.in-93807.is

pub returns-in-6248689257 : goal.returns-in-6248689257
unfolding lookup_key words key
returns-in-6248689257 c = arm c.args.w.now (in_bytes c.args.w.now (λ i. (c.shared_slice_known-1.given i).fits)) c.key.ensures c.in-6248689257.is

pub returns-in-409436639225202 : goal.returns-in-409436639225202
unfolding lookup_key words key
returns-in-409436639225202 c = arm c.args.w.now (in_bytes c.args.w.now (λ i. (c.shared_slice_known-1.given i).fits)) c.key.ensures c.in-409436639225202.is

pub returns-in-100883990536154979 : goal.returns-in-100883990536154979
unfolding lookup_key words key
returns-in-100883990536154979 c = arm c.args.w.now (in_bytes c.args.w.now (λ i. (c.shared_slice_known-1.given i).fits)) c.key.ensures c.in-100883990536154979.is

pub returns-in-93801 : goal.returns-in-93801
unfolding lookup_key words key
returns-in-93801 c = arm c.args.w.now (in_bytes c.args.w.now (λ i. (c.shared_slice_known-1.given i).fits)) c.key.ensures c.in-93801.is

pub returns-in-24409455 : goal.returns-in-24409455
unfolding lookup_key words key
returns-in-24409455 c = arm c.args.w.now (in_bytes c.args.w.now (λ i. (c.shared_slice_known-1.given i).fits)) c.key.ensures c.in-24409455.is

pub returns-in-392991477100397 : goal.returns-in-392991477100397
unfolding lookup_key words key
returns-in-392991477100397 c = arm c.args.w.now (in_bytes c.args.w.now (λ i. (c.shared_slice_known-1.given i).fits)) c.key.ensures c.in-392991477100397.is

pub returns-in-5979924843 : goal.returns-in-5979924843
unfolding lookup_key words key
returns-in-5979924843 c = arm c.args.w.now (in_bytes c.args.w.now (λ i. (c.shared_slice_known-1.given i).fits)) c.key.ensures c.in-5979924843.is

pub returns-in-23880054 : goal.returns-in-23880054
unfolding lookup_key words key
returns-in-23880054 c = arm c.args.w.now (in_bytes c.args.w.now (λ i. (c.shared_slice_known-1.given i).fits)) c.key.ensures c.in-23880054.is

pub returns-in-1530861547362 : goal.returns-in-1530861547362
unfolding lookup_key words key
returns-in-1530861547362 c = arm c.args.w.now (in_bytes c.args.w.now (λ i. (c.shared_slice_known-1.given i).fits)) c.key.ensures c.in-1530861547362.is

pub returns-in-100326542367944309 : goal.returns-in-100326542367944309
unfolding lookup_key words key
returns-in-100326542367944309 c = arm c.args.w.now (in_bytes c.args.w.now (λ i. (c.shared_slice_known-1.given i).fits)) c.key.ensures c.in-100326542367944309.is

pub returns-in_default : goal.returns-in_default
unfolding words key
returns-in_default c = default_arm c.args.w.now (in_bytes c.args.w.now (λ i. (c.shared_slice_known-1.given i).fits)) c.key.ensures c.in_default.in_default-own.rest
